-- Fractions that are integers: which of them fit, and their sums and products.
use Rattle.std.proofs.Common.{◌≡◌, ◌↔◌, ℤ, pos, ◌+ℤ◌, ◌*ℤ◌, ◌<ℤ◌, unsigned_abs, arith, refl, sym, ap₂, ◌∙◌, subst}
use Rattle.std.proofs.lemmas.Int.{ints}
use native.Mathlib.Nat.{eq-one_of_dvd-one}
use Rattle.dcx_math.specs.Integers.{units}
use Rattle.dcx_math.specs.Divisors.{gcd, divided}
use Rattle.dcx_math.specs.Rational.{whole, ◌+ℚ◌, ◌*ℚ◌, ◌/ℚ◌}
use Rattle.dcx_math.specs.LowestTerms.{IsInLowestTerms}
use Rattle.dcx_math.proofs.Ratios.{ratio-one, ratio-is-/ℚ}
use Rattle.dcx_math.proofs.FieldLaws.{whole-+ℤ, whole-*ℤ}
use Rattle.dcx_frac.specs.declared.fraction.Frac.{Frac}
use Rattle.dcx_frac.specs.Fits.{Fits, IsRepresentable, representable}
use Rattle.dcx_frac.specs.Frac.{num_of, den_of, value}
use Rattle.dcx_frac.specs.Formed.{left_term, right_term, FormsSum, ProductFits}
use Rattle.dcx_frac.proofs.Turns.{over_one}

pub one_positive : pos 0 <ℤ pos 1
one_positive = omega (arith, ints)

-- an integer over 1 is in lowest terms
pub whole_lowest : (z : ℤ) → IsInLowestTerms (whole z) z (pos 1)
whole_lowest z = record { positive = one_positive; coprime = λ d m n. eq-one_of_dvd-one n; is = sym (ratio-one z one_positive) }

-- so it is representable exactly where it fits
pub whole_fits : (z : ℤ) → IsRepresentable (whole z) ↔ Fits z
whole_fits z = (λ r. (r.fits z (pos 1) (whole_lowest z)).0, λ h. representable (whole z) z (pos 1) (whole_lowest z) h (omega arith))

-- an integer divided by 1
pub over_unit : (z : ℤ) → whole z /ℚ whole (pos 1) ≡ whole z
over_unit z = ratio-is-/ℚ z (pos 1) one_positive ∙ ratio-one z one_positive

-- the value of a fraction over 1
pub whole_value : (x : Frac) → den_of x ≡ pos 1 → value x ≡ whole (num_of x)
whole_value x e = over_one (num_of x) (num_of x) (den_of x) x.positive refl e

module _ (x y : Frac) (e : den_of x ≡ pos 1) (h : den_of y ≡ pos 1) where
  -- the product of two integers
  pub product_is : value x *ℚ value y ≡ whole (num_of x *ℤ num_of y)
  product_is = ap₂ ◌*ℚ◌ (whole_value x e) (whole_value y h) ∙ sym (whole-*ℤ (num_of x) (num_of y))

  pub product_fits : ProductFits x y ↔ Fits (num_of x *ℤ num_of y)
  product_fits =
      let f = whole_fits (num_of x *ℤ num_of y) in
      (λ r. f.0 (subst IsRepresentable product_is r), λ k. subst IsRepresentable (sym product_is) (f.1 k))

  -- their sum
  pub sum_is : value x +ℚ value y ≡ whole (num_of x +ℤ num_of y)
  sum_is = ap₂ ◌+ℚ◌ (whole_value x e) (whole_value y h) ∙ sym (whole-+ℤ (num_of x) (num_of y))

  by_one : (n : ℤ) (d b : ℤ) → d ≡ pos 1 → b ≡ pos 1 → n *ℤ divided (gcd (unsigned_abs d) (unsigned_abs b)) b ≡ n
  unfolding gcd
  by_one n d b p q = rw (p, q) (simp units)

  by_other : (n : ℤ) (d b : ℤ) → d ≡ pos 1 → b ≡ pos 1 → n *ℤ divided (gcd (unsigned_abs d) (unsigned_abs b)) d ≡ n
  unfolding gcd
  by_other n d b p q = rw (p, q) (simp units)

  pub left_is : left_term x y ≡ num_of x
  left_is = by_one (num_of x) (den_of x) (den_of y) e h

  pub right_is : right_term x y ≡ num_of y
  right_is = by_other (num_of y) (den_of x) (den_of y) e h

  pub sum_fits : FormsSum x y ↔ Fits (num_of x +ℤ num_of y)
  sum_fits =
      let f = whole_fits (num_of x +ℤ num_of y) in
      let both = ap₂ ◌+ℤ◌ left_is right_is in (
        λ s. subst Fits both s.sum,
        λ k. record {
          left = subst Fits (sym left_is) x.num_fits;
          right = subst Fits (sym right_is) y.num_fits;
          sum = subst Fits (sym both) k;
          parts = subst IsRepresentable (sym sum_is) (f.1 k);
        },
      )
