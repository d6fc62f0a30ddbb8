-- Numbers that are those of fractions of 128 bits: whole numbers, entries of arrays, negatives, magnitudes and extremes.
use Rattle.std.proofs.Common.{◌≡◌, ℕ, zero, suc, ◌<◌, ◌^◌, arith, neg_ℤ, unsigned_abs, pos, negsuc, ◌<ℤ◌, lit<, List, [], ◌∷◌, inl, inr, refl, sym, ap, ◌∙◌, subst}
use Rattle.std.specs.List.{All}
use Rattle.std.proofs.lemmas.Int.{ints}
use native.Mathlib.Nat.{eq-one_of_dvd-one}
use Rattle.dcx_math.specs.Rational.{ℚ, whole, neg_ℚ, rat_max, rat_abs}
use Rattle.dcx_math.specs.Divisors.{IsCoprime}
use Rattle.dcx_math.proofs.Bounds.{rat_max-cases}
use Rattle.dcx_math.proofs.Denominators.{ratio-neg_ℚ}
use Rattle.dcx_math.proofs.IntegerLaws.{unsigned_abs-neg}
use Rattle.dcx_math.proofs.LowestTerms.{numerator, denominator, numerator_is}
use Rattle.dcx_frac.specs.declared.fraction.Frac.{Frac}
use Rattle.dcx_frac.specs.Fits.{IsRepresentable, representable}
use Rattle.dcx_frac.specs.Frac.{value}
use Rattle.dcx_frac.specs.Results.{dec_fits}
use Rattle.dcx_frac.proofs.Parts.{value_representable}
use Rattle.dcx_frac.proofs.Results.{value-frac_of}
use Rattle.dcx_frac.proofs.Turns.{over_one}
use Rattle.dcx_atom.specs.declared.flags.Bend.{Bend}
use Rattle.dcx_atom.specs.declared.flags.Bend.TheVariants.{Convex, Concave}
use Rattle.dcx_atom.specs.Arrays.{number_at, list_below}
use Rattle.dcx_atom.specs.Formed.{zero_frac, one_frac, frac_at}
use Rattle.dcx_atom.specs.Bounding.{outward}
use Rattle.dcx_atom.specs.Farthest.{extreme, extreme_among}
use Rattle.dcx_atom.proofs.FormedSums.{value-zero_frac}
use Rattle.dcx_atom.proofs.LinearSums.{All-list_below}

-- a number that is representable is that of its fraction
pub value-frac_at : (x : ℚ) → IsRepresentable x → value (frac_at x) ≡ x
unfolding frac_at
value-frac_at x h = by (dec_fits x) refl
  where
    by : (d : Dec (IsRepresentable x)) → dec_fits x ≡ d → value (frac_at x) ≡ x
    by (yes fits) e = rw e (value-frac_of x fits)
    by (no wide) e = absurd (wide h)

-- ---- the numbers of a list
pub zero_fits : IsRepresentable (whole (pos 0))
zero_fits = subst IsRepresentable value-zero_frac (value_representable zero_frac)

pub number_fits : (xs : List Frac) (j : ℕ) → IsRepresentable (number_at xs j)
number_fits [] j = zero_fits
number_fits (x ∷ xs) zero = value_representable x
number_fits (x ∷ xs) (suc j) = number_fits xs j

-- ---- whole numbers
pub whole_fits : (n : ℕ) → n < 2 ^ 127 → IsRepresentable (whole (pos n))
whole_fits n small =
    let one : pos 0 <ℤ pos 1 = omega (arith, ints) in
    representable (whole (pos n)) (pos n) (pos 1) (record { positive = one; coprime = λ d h k. eq-one_of_dvd-one k; is = sym (over_one (pos n) (pos n) (pos 1) one refl refl) }) small (lit< tt)

pub one_fits : IsRepresentable (whole (pos 1))
one_fits = whole_fits 1 (lit< tt)

pub value-one_frac : value one_frac ≡ whole (pos 1)
value-one_frac = value-frac_at (whole (pos 1)) one_fits

pub minus_one_fits : IsRepresentable (whole (negsuc 0))
minus_one_fits =
    let one : pos 0 <ℤ pos 1 = omega (arith, ints) in
    representable (whole (negsuc 0)) (negsuc 0) (pos 1)
    (record { positive = one; coprime = λ d h k. eq-one_of_dvd-one k; is = sym (over_one (negsuc 0) (negsuc 0) (pos 1) one refl refl) }) (lit< tt) (lit< tt)

-- ---- either sign of a number
pub negative_fits : (x : ℚ) → IsRepresentable x → IsRepresentable (neg_ℚ x)
negative_fits x h =
    let n = numerator x in
    let d = denominator x in
    let lowest = numerator_is x in
    let fits = h.fits n d lowest in
    let same = sym (unsigned_abs-neg n) in
    representable (neg_ℚ x) (neg_ℤ n) d
    (record { positive = lowest.positive; coprime = subst (λ k. IsCoprime k (unsigned_abs d)) same lowest.coprime; is = ap neg_ℚ lowest.is ∙ ratio-neg_ℚ d lowest.positive n })
    (subst (λ k. k < 2 ^ 127) same fits.0) fits.1

-- the negative of a fraction is one
pub value-negative : (x : Frac) → value (frac_at (neg_ℚ (value x))) ≡ neg_ℚ (value x)
value-negative x = value-frac_at (neg_ℚ (value x)) (negative_fits (value x) (value_representable x))

pub outward_fits : (bend : Bend) (x : ℚ) → IsRepresentable x → IsRepresentable (outward bend x)
outward_fits Convex x h = h
outward_fits Concave x h = negative_fits x h

-- ---- the greater of two, the magnitude, and the greatest of so many numbers or the least
pub greater_fits : (x y : ℚ) → IsRepresentable x → IsRepresentable y → IsRepresentable (rat_max x y)
greater_fits x y h k = elim (rat_max-cases x y) [ inl e ↦ subst IsRepresentable (sym e.0) k | inr e ↦ subst IsRepresentable (sym e.0) h ]

pub magnitude_fits : (x : ℚ) → IsRepresentable x → IsRepresentable (rat_abs x)
unfolding rat_abs
magnitude_fits x h = greater_fits x (neg_ℚ x) h (negative_fits x h)

pub extreme_fits : (bend : Bend) (xs : List ℚ) → All IsRepresentable xs → IsRepresentable (extreme bend xs)
extreme_fits bend xs h = extreme_among bend IsRepresentable xs zero_fits h

pub extreme_below_fits : (bend : Bend) (n : ℕ) (x : ℕ → ℚ) → ((k : ℕ) → IsRepresentable (x k)) → IsRepresentable (extreme bend (list_below n x))
extreme_below_fits bend n x h = extreme_fits bend (list_below n x) (All-list_below IsRepresentable n x (λ i _. h i))
