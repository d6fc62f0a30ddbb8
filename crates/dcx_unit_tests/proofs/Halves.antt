-- Half of 1 is at least 0, and twice it is 1.
use Rattle.std.proofs.Common.{◌≡◌, sym, ap, ◌∙◌, [], ◌∷◌, pos}
use Rattle.dcx_math.specs.Rational.{ℚ, whole, ◌+ℚ◌, ◌*ℚ◌, ◌/ℚ◌}
use Rattle.dcx_math.specs.Sums.{IsNonnegative}
use Rattle.dcx_math.proofs.Ring.{ring, reads, /ℚ-is}
use Rattle.dcx_math.proofs.Orders.{*ℚ_idl, zero-*ℚ, whole-≤ℤ, ≤ℚ_trans, ≤ℚ-from_≡}
use Rattle.dcx_math.proofs.Products.{half_twice, ≤ℚ-/ℚ, whole-suc_positive}
use Rattle.dcx_unit_tests.specs.Uses.{half}

half_is : whole (pos 1) /ℚ whole (pos 2) ≡ half
half_is = /ℚ-is (whole (pos 1)) (whole (pos 2)) ∙ *ℚ_idl half

twice : (x : ℚ) → x +ℚ x ≡ x *ℚ whole (pos 2)
twice x = ring (x ∷ []) (search reads depth 30) tt

-- 1/2 and 1/2 are 1
pub halves : half +ℚ half ≡ whole (pos 1)
halves = twice half ∙ ap (λ x. x *ℚ whole (pos 2)) (sym half_is) ∙ half_twice (whole (pos 1))

-- 1/2 is at least 0
pub half_nonnegative : IsNonnegative half
half_nonnegative = ≤ℚ_trans (≤ℚ-/ℚ (whole-suc_positive 1) (≤ℚ_trans (≤ℚ-from_≡ (zero-*ℚ (whole (pos 2)))) (whole-≤ℤ (pos 0) (pos 1) (record { le = tt })))) (≤ℚ-from_≡ half_is)
