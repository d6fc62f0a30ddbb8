-- The multipliers of the constraints so far have their signs.
use Rattle.dcx_cert_check.specs.SingleChecks.{multipliers_signed}
use Rattle.dcx_cert_check.proofs.Steps.{PassBelow, at_place}
use Rattle.dcx_cert_check.proofs.duals.check_each.Given as goal

abbrev pub invariant-constraints : goal.invariant-constraints
invariant-constraints l = PassBelow (at_place l.constraints (multipliers_signed l.duals)) l.k
