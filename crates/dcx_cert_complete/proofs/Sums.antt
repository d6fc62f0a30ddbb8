-- Sums over more indices than are needed.
use Rattle.std.proofs.Common.{◌≡◌, ℕ, zero, suc, ◌+◌, ◌≤◌, arith, ap, ap₂, ◌∙◌, pos}
use Rattle.dcx_math.specs.Rational.{whole, ◌+ℚ◌}
use Rattle.dcx_math.specs.Sums.{rat_sum_below}
use Rattle.dcx_math.proofs.Orders.{+ℚ_idr}
use Rattle.dcx_convex.specs.Nodes.{Numbers}

-- terms that are 0 from n on
pub further_zero : (n d : ℕ) (f : Numbers) → ((j : ℕ) → n ≤ j → f j ≡ whole (pos 0)) → rat_sum_below (n + d) f ≡ rat_sum_below n f
further_zero n zero f h = let e : n + 0 ≡ n = omega arith in ap (λ k. rat_sum_below k f) e
further_zero n (suc d) f h =
    let e : n + suc d ≡ suc (n + d) = omega arith in
    ap (λ k. rat_sum_below k f) e ∙ ap₂ ◌+ℚ◌ (further_zero n d f h) (h (n + d) (omega arith)) ∙ +ℚ_idr _
