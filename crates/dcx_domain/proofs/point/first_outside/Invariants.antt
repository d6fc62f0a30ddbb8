-- The variables so far are inside.
use Rattle.dcx_domain.specs.Points.{IsInside}
use Rattle.dcx_domain.proofs.Variables.{HoldBelow}
use Rattle.dcx_domain.proofs.point.first_outside.Given as goal

abbrev pub invariant-loop-k : goal.invariant-loop-k
invariant-loop-k l = HoldBelow (λ v. IsInside v l.point) l.variables l.k
