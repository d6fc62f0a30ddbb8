-- A number that is written in decimal digits is read as itself.
use Rattle.std.proofs.Common.{◌≡◌, ℕ, ◌+◌, ◌^◌, ◌<◌, pos, true, false, cond, List, [], ◌∷◌, ◌++◌, length, drop, decimal, append-nil, one-add, Some, None, refl, ap, ◌∙◌, arith}
use Rattle.std.specs.Prelude.{option_map}
use Rattle.std.specs.Char.{is_ascii_digit}
use Rattle.std.specs.Str.Parse.{digits_value, AllDigits}
use Rattle.std.proofs.Math.Seq.{drop-length}
use Rattle.std.proofs.lemmas.Bool.Decides.{nat_tests}
use Rattle.std.proofs.lemmas.Fmt.{decimal_is_IsNumeral, length-decimal-le}
use Rattle.dcx_math.specs.Rational.{ℚ, whole, ◌/ℚ◌}
use Rattle.dcx_math.proofs.Orders.{*ℚ_idr}
use Rattle.dcx_frac.specs.Fits.{IsRepresentable}
use Rattle.dcx_frac.specs.Results.{dec_fits}
use Rattle.dcx_frac.proofs.Integers.{whole_fits, over_unit}
use Rattle.dcx_atom.specs.Formed.{frac_at}
use Rattle.dcx_tokens.specs.Number.{frac_at as fraction_of}
use Rattle.dcx_tokens.specs.Number.{Spelling, spelling_at, fraction_digits, fraction_len, exponent_digits, exponent_len, is_negative, mantissa_len, value_of}
use Rattle.dcx_tokens.specs.Number.{is_in_limits, frac_of_spelling, number_at, is_spoiled, digits}
use Rattle.dcx_tokens.specs.Front.{run_of}
use Rattle.dcx_token_laws.proofs.Numerals.{number_by, by_spelling}
use Rattle.dcx_token_laws.proofs.Longer.{number_longer}
use Rattle.dcx_trial_laws.proofs.Tests.{is_digit}

all_while : (ds : List ℕ) → AllDigits 10 ds → digits ds ≡ ds
all_while [] all = refl
all_while (c ∷ cs) all = rw (is_digit c all.0, one-add) (ap (λ xs. c ∷ xs) (all_while cs all.1))

-- how digits alone are spelled
abbrev plain_spelling : List ℕ → Spelling
plain_spelling ds = record { whole = ds; fraction = []; is_negative = false; exponent = []; len = length ds }

module _ (ds : List ℕ) (whole_is : digits ds ≡ ds) where
  run : run_of is_ascii_digit ds ≡ length ds
  run = ap length whole_is

  none_left : drop (run_of is_ascii_digit ds) ds ≡ []
  none_left = ap (λ n. drop n ds) run ∙ drop-length ds

  mantissa_is : mantissa_len ds ≡ length ds
  mantissa_is = let f = ap fraction_len none_left in omega (arith, run, f)

  none_behind : drop (mantissa_len ds) ds ≡ []
  none_behind = ap (λ n. drop n ds) mantissa_is ∙ drop-length ds

  len_is : mantissa_len ds + exponent_len (drop (mantissa_len ds) ds) ≡ length ds
  len_is = let e = ap exponent_len none_behind in omega (arith, mantissa_is, e)

  spelled_plain : spelling_at ds ≡ plain_spelling ds
  unfolding spelling_at
  spelled_plain = λ i. record {
    whole = whole_is i;
    fraction = fraction_digits (none_left i);
    is_negative = is_negative (none_behind i);
    exponent = exponent_digits (none_behind i);
    len = len_is i;
  }

-- the fraction of a representable number
some_frac : (x : ℚ) → IsRepresentable x → fraction_of x ≡ Some (frac_at x)
unfolding fraction_of frac_at
some_frac x h = by (dec_fits x) refl
  where
    by : (d : Dec (IsRepresentable x)) → dec_fits x ≡ d → fraction_of x ≡ Some (frac_at x)
    by (yes fits) e = rw e refl
    by (no wide) e = absurd (wide h)

module _ (k : ℕ) (small : k < 2 ^ 64) where
  value_is : value_of (plain_spelling (decimal k)) ≡ whole (pos k)
  value_is =
      *ℚ_idr (whole (pos (digits_value 10 (decimal k ++ []))) /ℚ whole (pos 1)) ∙ over_unit (pos (digits_value 10 (decimal k ++ [])))
      ∙ ap (λ ds. whole (pos (digits_value 10 ds))) (append-nil (decimal k)) ∙ ap (λ n. whole (pos n)) (decimal_is_IsNumeral k small).1

  few_digits : is_in_limits (plain_spelling (decimal k)) ≡ true
  few_digits = let few = length-decimal-le 20 k (omega arith) (omega arith) small in grind (arith, nat_tests, few)

  frac_is : frac_of_spelling (plain_spelling (decimal k)) ≡ Some (frac_at (whole (pos k)))
  frac_is =
      ap (λ b. cond b (fraction_of (value_of (plain_spelling (decimal k)))) None) few_digits ∙ ap fraction_of value_is
      ∙ some_frac (whole (pos k)) ((whole_fits (pos k)).1 (omega arith))

  own_number : number_at (decimal k) ≡ Some (frac_at (whole (pos k)), length (decimal k))
  own_number =
      let ds = decimal k in
      by_spelling ds ∙ ap (λ (z : Spelling). number_by z ds) (spelled_plain ds (all_while ds (decimal_is_IsNumeral k small).0.1))
      ∙ ap (λ cs. cond (is_spoiled cs) None (option_map (λ f. (f, length ds)) (frac_of_spelling (plain_spelling ds)))) (drop-length ds)
      ∙ ap (λ o. option_map (λ f. (f, length ds)) o) frac_is

  -- in front of what doesn't spoil it
  pub number_is : (rest : List ℕ) → is_spoiled rest ≡ false → number_at (decimal k ++ rest) ≡ Some (frac_at (whole (pos k)), length (decimal k))
  number_is rest fine = number_longer (decimal k) rest (frac_at (whole (pos k))) own_number fine
