-- A point with a digit behind it is a number.
use Rattle.std.proofs.Common.{◌≡◌, ◌≢◌, ℕ, ◌<◌, pos, true, false, [], ◌∷◌, Some, refl, sym, ap, ◌∙◌, subst, arith}
use Rattle.std.specs.Prelude.{option_map}
use Rattle.std.specs.Char.{is_ascii_digit}
use Rattle.std.specs.Str.Parse.{digits_value}
use Rattle.dcx_math.specs.Rational.{ℚ, whole, ◌/ℚ◌}
use Rattle.dcx_math.proofs.Orders.{*ℚ_idr}
use Rattle.dcx_frac.specs.Fits.{IsRepresentable}
use Rattle.dcx_frac.specs.declared.fraction.Frac.{Frac}
use Rattle.dcx_frac.specs.Results.{frac_of, dec_fits}
use Rattle.dcx_frac.proofs.Representable.{representable_quotient}
use Rattle.dcx_tokens.specs.Number.{Spelling, spelling_at, frac_if, frac_at, value_of, number_at}
use Rattle.dcx_token_laws.proofs.Numerals.{number_by, by_spelling}
use Rattle.dcx_tokens.proofs.Digits.{digit_small}

-- how it is spelled
abbrev spelled : ℕ → Spelling
spelled d = record { whole = []; fraction = d ∷ []; is_negative = false; exponent = []; len = 2 }

spelled_so : (d : ℕ) → is_ascii_digit d ≡ true → spelling_at (46 ∷ d ∷ []) ≡ spelled d
unfolding spelling_at
spelled_so d h = rw h refl

ten_some : pos 10 ≢ pos 0
ten_some e = cc

tenth_fits : (m : ℕ) → m < 10 → IsRepresentable (whole (pos m) /ℚ whole (pos 10))
tenth_fits m h = representable_quotient (pos m) (pos 10) (omega (arith, h)) (omega arith) ten_some

value_fits : (d : ℕ) → is_ascii_digit d ≡ true → IsRepresentable (value_of (spelled d))
value_fits d h = subst IsRepresentable (sym (*ℚ_idr (whole (pos (digits_value 10 (d ∷ []))) /ℚ whole (pos 10))))
    (tenth_fits (digits_value 10 (d ∷ [])) (let small = digit_small d h in omega (arith, small)))

frac_some : (x : ℚ) → IsRepresentable x → (f : Frac) × (frac_at x ≡ Some f)
unfolding frac_at
frac_some x h = by (dec_fits x)
  where
    by : (dec : Dec (IsRepresentable x)) → (f : Frac) × (frac_if x dec ≡ Some f)
    by (yes fits) = (frac_of x fits, refl)
    by (no wide) = absurd (wide h)

pub point_number : (d : ℕ) → is_ascii_digit d ≡ true → (x : Frac) × (number_at (46 ∷ d ∷ []) ≡ Some (x, 2))
point_number d h =
    let f = frac_some (value_of (spelled d)) (value_fits d h) in
    (f.0, by_spelling (46 ∷ d ∷ []) ∙ ap (λ (z : Spelling). number_by z (46 ∷ d ∷ [])) (spelled_so d h) ∙ ap (λ o. option_map (λ g. (g, 2)) o) f.1)
