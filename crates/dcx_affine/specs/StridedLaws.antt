-- The laws of strided calls.
use Rattle.std.specs.Prelude.{◌≡◌, ℕ, ◌+◌, ◌*◌, List, [], ◌∷◌, Some, option_and_then, pos}
use Rattle.std.proofs.Common.{refl, sym, ap, ◌∙◌, arith}
use Rattle.dcx_math.specs.Rational.{ℚ, whole, ◌*ℚ◌, ◌+ℚ◌}
use Rattle.dcx_math.specs.Sums.{IsNonnegative}
use Rattle.dcx_math.proofs.Orders.{*ℚ_idl, +ℚ_idl, whole-≤ℤ}
use Rattle.dcx_math.proofs.Sums.{rat_sum_below-*ℚ}
use Rattle.dcx_shape.specs.declared.shape.Sides.{Sides}
use Rattle.dcx_atom.specs.declared.axis.Stride.{Stride}
use Rattle.dcx_atom.specs.Arrays.{Entries, sides_at}
use Rattle.dcx_atom.specs.Axis.{stride_entry}
use Rattle.dcx_atom.specs.Linear.{terms_at, IsLinear, KeepsSign, KeepsTrend}
use Rattle.dcx_atom.proofs.LinearSums.{HasNoNegative, HasOnlyFirst, rising_trend, first_sign, All-list_below, terms_at-list_below}
use Rattle.dcx_atom.specs.Bounding.{only}
use Rattle.dcx_affine.specs.Strided.{stride_terms, stride_sum, one_entry, StridedCall, strided_meaning, IsStrided}

-- the terms of a stride are its sum times the coefficient
pub stride_terms_are : (c : ℚ) (s : Stride) (a : Entries) → terms_at (stride_terms c s) a ≡ c *ℚ stride_sum s (a 0)
stride_terms_are c s a = terms_at-list_below s.count (λ i. record { argument = 0; entry = stride_entry s i; coefficient = c }) a ∙ rat_sum_below-*ℚ s.count c (λ i. a 0 (stride_entry s i))

-- a call of one argument has a shape only for one argument
result_is : (s : StridedCall) (args : List Sides) (to : Sides) → option_and_then s.result (only args) ≡ Some to → s.result (sides_at args 0) ≡ Some to
result_is s [] to e = cc
result_is s (from ∷ []) to e = e
result_is s (from ∷ r ∷ rs) to e = cc

module _ (s : StridedCall) (is : IsStrided s) where
  pub strided_linear : IsLinear (strided_meaning s)
  strided_linear args to e j b a =
      is.sums (sides_at args 0) to (result_is s args to e) (a 0) j b ∙ sym (stride_terms_are (s.coefficient (sides_at args 0)) (s.stride (sides_at args 0) j) a)

  no_negative : HasNoNegative (strided_meaning s)
  no_negative args to e j b = All-list_below (λ x. IsNonnegative x.coefficient) (s.stride (sides_at args 0) j).count _ (λ i h. is.nonneg (sides_at args 0) to (result_is s args to e))

  only_first : HasOnlyFirst (strided_meaning s)
  only_first args to e j b = All-list_below (λ x. x.argument ≡ 0) (s.stride (sides_at args 0) j).count _ (λ i h. refl)

  pub strided_sign : KeepsSign (strided_meaning s)
  strided_sign = first_sign (strided_meaning s) strided_linear (λ signs. refl) no_negative only_first

  pub strided_trend : KeepsTrend (strided_meaning s)
  strided_trend = rising_trend (strided_meaning s) strided_linear (λ i. refl) no_negative

-- 1 is at least 0
pub one_nonneg : IsNonnegative (whole (pos 1))
one_nonneg = whole-≤ℤ (pos 0) (pos 1) (record { le = tt })

-- a sum that isn't multiplied
pub once : (x : ℚ) → x ≡ whole (pos 1) *ℚ x
once x = sym (*ℚ_idl x)

-- one entry alone is its sum
pub one_entry_is : (p : ℕ) (x : ℕ → ℚ) → x p ≡ whole (pos 1) *ℚ stride_sum (one_entry p) x
one_entry_is p x = let e : p + 0 * 1 ≡ p = omega arith in
    once (x p) ∙ ap (λ y. whole (pos 1) *ℚ y) (sym (+ℚ_idl (x p)) ∙ ap (λ q. whole (pos 0) +ℚ x q) (sym e))
