-- An optimal value is least, an infeasible problem has no point, and an unbounded one no bound.
use Rattle.std.proofs.Common.{pos}
use mathlib.Core.Logic.{∥∥₁_elim}
use Rattle.dcx_math.specs.Rational.{whole, ◌-ℚ◌}
use Rattle.dcx_math.proofs.Orders.{≤ℚ_trans, <ℚ-not}
use Rattle.dcx_math.proofs.Products.{falls_below, zero-<ℚ-one}
use Rattle.dcx_atom.specs.Signs.{shifted}
use Rattle.dcx_convex.proofs.OneAnswer.{none_below, none_feasible, less_by_one}
use Rattle.dcx_tree.specs.Meaning.{convex_problem}
use Rattle.dcx_right.specs.Laws.{OptimaAreLeast, InfeasibleHaveNoPoint, UnboundedHaveNoLeast}

pub optima_are_least : OptimaAreLeast
optima_are_least p s v x y m h f = none_below (convex_problem p) s v x y m h f

pub infeasible_have_no_point : InfeasibleHaveNoPoint
infeasible_have_no_point p s g y m h f = none_feasible (convex_problem p) s m g y h f

-- far enough along the ray the objective is below any number
pub unbounded_have_no_least : UnboundedHaveNoLeast
unbounded_have_no_least p s b e low x d h least =
    let none : IsProp ⊥ = hlevel in
    ∥∥₁_elim (falls_below b (low -ℚ whole (pos 1)) e h.positive) none (λ q. <ℚ-not zero-<ℚ-one (less_by_one low
    (≤ℚ_trans (least (shifted x q.0 d) (h.feasible q.0 q.1.0)) (≤ℚ_trans (h.falls q.0 q.1.0) q.1.1))))
