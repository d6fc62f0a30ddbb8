-- Zero, negatives, inverses, and what follows for sums with a zero operand, differences and quotients.
use Rattle.std.proofs.Common.{◌≡◌, ⊎_elim, inl, inr, ◌↔◌, ◌<◌, ◌^◌, ℤ, pos, ◌+ℤ◌, ◌*ℤ◌, ◌<ℤ◌, neg_ℤ, unsigned_abs, arith, sym, ap, ap₂, ◌∙◌, subst}
use Rattle.std.proofs.lemmas.Int.{ints}
use Rattle.dcx_math.specs.Integers.{ring, units, *ℤ-neg_ℤ_left}
use Rattle.dcx_math.specs.Divisors.{gcd, IsCoprime, divided}
use Rattle.dcx_math.specs.Rational.{ratio, whole, ◌+ℚ◌, ◌-ℚ◌, ◌*ℚ◌, ◌/ℚ◌, neg_ℚ, inverse}
use Rattle.dcx_math.specs.LowestTerms.{IsInLowestTerms}
use Rattle.dcx_math.proofs.Ratios.{ratio-*ℚ-ratio, ≡-from_products, ≡-products, ratio-one}
use Rattle.dcx_math.proofs.Denominators.{ratio-neg_ℚ}
use Rattle.dcx_math.proofs.IntegerLaws.{unsigned_abs-neg}
use Rattle.dcx_math.proofs.LowestTerms.{lowest_terms_unique}
use Rattle.dcx_math.proofs.FieldLaws.{*ℚ-inverse, +ℚ_idl}
use Rattle.dcx_math.proofs.Orders.{+ℚ_idr, neg_ℚ-zero}
use Rattle.dcx_math.proofs.Products.{*ℚ_cancel}
use Rattle.dcx_math.proofs.Ring.{/ℚ-is, -ℚ-is}
use Rattle.dcx_frac.specs.declared.fraction.Frac.{Frac}
use Rattle.dcx_frac.specs.Fits.{Fits, IsRepresentable, representable}
use Rattle.dcx_frac.specs.Frac.{num_of, den_of, value}
use Rattle.dcx_frac.specs.Formed.{IsZero, shared_divisor, left_term, right_term, FormsSum, FormsDifference, SumFits, DifferenceFits}
use Rattle.dcx_frac.proofs.Parts.{value_lowest, value_representable}

-- ---- zero, one, negatives, inverses
-- a fraction is 0 exactly where its numerator is
pub zero_num : (x : Frac) → (num_of x ≡ pos 0) ↔ IsZero x
zero_num x = (
  (λ e. ≡-from_products (num_of x) (den_of x) (pos 0) (pos 1) x.positive one (by (num_of x) (den_of x) e) ∙ ratio-one (pos 0) one),
  (λ z. back (num_of x) (den_of x) (≡-products (num_of x) (den_of x) (pos 0) (pos 1) x.positive one (z ∙ sym (ratio-one (pos 0) one)))),
)
  where
    one : pos 0 <ℤ pos 1
    one = omega (arith, ints)

    by : (n d : ℤ) → n ≡ pos 0 → n *ℤ pos 1 ≡ pos 0 *ℤ d
    by n d e = rw e (simp units)

    back : (n d : ℤ) → n *ℤ pos 1 ≡ pos 0 *ℤ d → n ≡ pos 0
    back n d e = simp units at e

-- an integer over 1
pub over_one : (m n d : ℤ) (p : pos 0 <ℤ d) → n ≡ m → d ≡ pos 1 → ratio n d p ≡ whole m
over_one m n d p e h =
    let one : pos 0 <ℤ pos 1 = omega (arith, ints) in
    ≡-from_products n d m (pos 1) p one (ap₂ ◌*ℤ◌ e (sym h)) ∙ ratio-one m one

-- the negative
pub neg_value : (f : Frac) (n d : ℤ) (p : pos 0 <ℤ d) → n ≡ neg_ℤ (num_of f) → d ≡ den_of f → ratio n d p ≡ neg_ℚ (value f)
neg_value f n d p e h =
    ≡-from_products n d (neg_ℤ (num_of f)) (den_of f) p f.positive (ap₂ ◌*ℤ◌ e (sym h)) ∙ sym (ratio-neg_ℚ (den_of f) f.positive (num_of f))

-- the inverse of a number over 0, and below 0
pub inverse_value : (f : Frac) (n d : ℤ) (p : pos 0 <ℤ d) → ¬ IsZero f → num_of f *ℤ n ≡ den_of f *ℤ d → ratio n d p ≡ inverse (value f)
inverse_value f n d p some h =
    let one : pos 0 <ℤ pos 1 = omega (arith, ints) in
    let e : value f *ℚ ratio n d p ≡ whole (pos 1) = ratio-*ℚ-ratio (num_of f) (den_of f) n d f.positive p
    ∙ ≡-from_products (num_of f *ℤ n) (den_of f *ℤ d) (pos 1) (pos 1) _ one (simp units h) ∙ ratio-one (pos 1) one in
    *ℚ_cancel (value f) some (e ∙ sym (*ℚ-inverse (value f) some))

-- the parts change places, and their signs with them
pub turned_cross : (a b n d : ℤ) → n ≡ neg_ℤ b → d ≡ neg_ℤ a → a *ℤ n ≡ b *ℤ d
turned_cross a b n d e h = rw (e, h) (simp ring)

-- a product with the inverse is the quotient
pub quotient_value : (x y t : Frac) → value t ≡ inverse (value y) → value x *ℚ value t ≡ value x /ℚ value y
quotient_value x y t is = ap (λ u. value x *ℚ u) is ∙ sym (/ℚ-is (value x) (value y))

-- ---- sums with a zero operand, and differences
-- 0 on the left
pub zero_left : (x y : Frac) → IsZero x → value y ≡ value x +ℚ value y
zero_left x y z = sym (ap (λ u. u +ℚ value y) z ∙ +ℚ_idl (value y))

-- 0 on the right
pub zero_right : (x y : Frac) → IsZero y → value x ≡ value x +ℚ value y
zero_right x y z = sym (ap (λ u. value x +ℚ u) z ∙ +ℚ_idr (value x))

-- a sum that fits is representable
pub sum_representable : (x y : Frac) → SumFits x y → IsRepresentable (value x +ℚ value y)
sum_representable x y (inl z) = subst IsRepresentable (zero_left x y z) (value_representable y)
sum_representable x y (inr (inl z)) = subst IsRepresentable (zero_right x y z) (value_representable x)
sum_representable x y (inr (inr h)) = h.parts

-- the negative in lowest terms
pub neg_lowest : (y : Frac) → IsInLowestTerms (neg_ℚ (value y)) (neg_ℤ (num_of y)) (den_of y)
neg_lowest y = record {
  positive = y.positive;
  coprime = subst (λ m. IsCoprime m (unsigned_abs (den_of y))) (sym (unsigned_abs-neg (num_of y))) y.lowest;
  is = ratio-neg_ℚ (den_of y) y.positive (num_of y);
}

-- f is the negative of y
module _ (x y f : Frac) (is : value f ≡ neg_ℚ (value y)) where
  turned_parts : (num_of f ≡ neg_ℤ (num_of y)) × (den_of f ≡ den_of y)
  turned_parts = lowest_terms_unique (value f) (num_of f) (den_of f) (neg_ℤ (num_of y)) (den_of y) (value_lowest f)
      (subst (λ u. IsInLowestTerms u (neg_ℤ (num_of y)) (den_of y)) (sym is) (neg_lowest y))

  left_same : left_term x f ≡ left_term x y
  left_same = ap (λ d. num_of x *ℤ divided (gcd (unsigned_abs (den_of x)) (unsigned_abs d)) d) turned_parts.1

  right_turned : right_term x f ≡ neg_ℤ (right_term x y)
  right_turned =
      ap₂ (λ n d. n *ℤ divided (gcd (unsigned_abs (den_of x)) (unsigned_abs d)) (den_of x)) turned_parts.0 turned_parts.1
      ∙ *ℤ-neg_ℤ_left (num_of y) (divided (shared_divisor x y) (den_of x))

  -- a difference is the sum with the negative
  pub difference_value : value x +ℚ value f ≡ value x -ℚ value y
  difference_value = ap (λ u. value x +ℚ u) is ∙ sym (-ℚ-is (value x) (value y))

  zero_turned : IsZero f ↔ IsZero y
  zero_turned = (
    (λ z. (zero_num y).0 (unturned (num_of y) (sym turned_parts.0 ∙ (zero_num f).1 z))),
    (λ z. (zero_num f).0 (turned_parts.0 ∙ ap neg_ℤ ((zero_num y).1 z))),
  )
    where
      unturned : (z : ℤ) → neg_ℤ z ≡ pos 0 → z ≡ pos 0
      unturned z e = omega (arith, ints)

  -- it forms the same numbers
  pub forms_difference : FormsSum x f ↔ FormsDifference x y
  forms_difference = (
    (λ h. record {
      left = subst Fits left_same h.left;
      right = subst (λ m. m < 2 ^ 127) (ap unsigned_abs right_turned ∙ unsigned_abs-neg (right_term x y)) h.right;
      difference = subst Fits (ap₂ ◌+ℤ◌ left_same right_turned) h.sum;
      parts = subst IsRepresentable difference_value h.parts;
    }),
    (λ h. record {
      left = subst Fits (sym left_same) h.left;
      right = subst (λ m. m < 2 ^ 127) (sym (ap unsigned_abs right_turned ∙ unsigned_abs-neg (right_term x y))) h.right;
      sum = subst Fits (sym (ap₂ ◌+ℤ◌ left_same right_turned)) h.difference;
      parts = subst IsRepresentable (sym difference_value) h.parts;
    }),
  )

  -- and fits exactly where the sum does
  pub difference_fits : SumFits x f ↔ DifferenceFits x y
  difference_fits = (
    (λ h. ⊎_elim (λ z. inl z) (λ k. ⊎_elim (λ z. inr (inl (zero_turned.0 z))) (λ s. inr (inr (forms_difference.0 s))) k) h),
    (λ h. ⊎_elim (λ z. inl z) (λ k. ⊎_elim (λ z. inr (inl (zero_turned.1 z))) (λ s. inr (inr (forms_difference.1 s))) k) h),
  )

-- a difference that fits is representable
pub difference_representable : (x y : Frac) → DifferenceFits x y → IsRepresentable (value x -ℚ value y)
difference_representable x y (inl z) =
    let e : neg_ℚ (value y) ≡ value x -ℚ value y = sym (-ℚ-is (value x) (value y) ∙ ap (λ u. u +ℚ neg_ℚ (value y)) z ∙ +ℚ_idl (neg_ℚ (value y))) in
    let l = neg_lowest y in
    subst IsRepresentable e (representable (neg_ℚ (value y)) (neg_ℤ (num_of y)) (den_of y) l (subst (λ m. m < 2 ^ 127) (sym (unsigned_abs-neg (num_of y))) y.num_fits) y.den_fits)
difference_representable x y (inr (inl z)) =
    let e : value x ≡ value x -ℚ value y = sym (-ℚ-is (value x) (value y) ∙ ap (λ u. value x +ℚ neg_ℚ u) z ∙ ap (λ u. value x +ℚ u) neg_ℚ-zero ∙ +ℚ_idr (value x)) in
    subst IsRepresentable e (value_representable x)
difference_representable x y (inr (inr h)) = h.parts
