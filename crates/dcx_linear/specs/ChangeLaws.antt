-- Multiplying and dividing by a fraction keeps sums.
use Rattle.std.proofs.Common.{◌≡◌, ℕ, [], ◌∷◌, pos}
use Rattle.dcx_math.specs.Rational.{ℚ, whole, ◌+ℚ◌, ◌*ℚ◌, ◌/ℚ◌, inverse}
use Rattle.dcx_math.specs.Sums.{rat_sum_below}
use Rattle.dcx_math.proofs.Orders.{zero-*ℚ, *ℚ-zero}
use Rattle.dcx_math.proofs.Ring.{ring, reads}
use Rattle.dcx_math.proofs.Sums.{rat_sum_below-*ℚ, rat_sum_below-*ℚ_right}
use Rattle.dcx_frac.specs.Frac.{value}
use Rattle.dcx_linear.specs.declared.change.Change.{Change}
use Rattle.dcx_linear.specs.declared.change.Change.TheVariants.{Scale, Divide}
use Rattle.dcx_linear.specs.Changes.{changed}

-- a factor at the constant side comes out
pub changed_product : (change : Change) (x y : ℚ) → changed change x *ℚ y ≡ changed change (x *ℚ y)
unfolding ◌/ℚ◌
changed_product (Scale by) x y = ring (value by ∷ x ∷ y ∷ []) (search reads depth 30) tt
changed_product (Divide by) x y = ring (x ∷ y ∷ inverse (value by) ∷ []) (search reads depth 30) tt

-- a changed sum is the sum of the changed
pub changed_sum : (change : Change) (x y : ℚ) → changed change x +ℚ changed change y ≡ changed change (x +ℚ y)
unfolding ◌/ℚ◌
changed_sum (Scale by) x y = ring (value by ∷ x ∷ y ∷ []) (search reads depth 30) tt
changed_sum (Divide by) x y = ring (x ∷ y ∷ inverse (value by) ∷ []) (search reads depth 30) tt

-- 0 stays 0
pub changed_zero : (change : Change) → changed change (whole (pos 0)) ≡ whole (pos 0)
unfolding ◌/ℚ◌
changed_zero (Scale by) = *ℚ-zero (value by)
changed_zero (Divide by) = zero-*ℚ (inverse (value by))

-- a changed sum over indices is the sum of the changed
pub changed_sums : (change : Change) (n : ℕ) (g : ℕ → ℚ) → rat_sum_below n (λ k. changed change (g k)) ≡ changed change (rat_sum_below n g)
unfolding ◌/ℚ◌
changed_sums (Scale by) n g = rat_sum_below-*ℚ n (value by) g
changed_sums (Divide by) n g = rat_sum_below-*ℚ_right n (inverse (value by)) g
