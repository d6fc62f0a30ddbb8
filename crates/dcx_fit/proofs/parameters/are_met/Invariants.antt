-- The parameters so far are met.
use Rattle.dcx_domain.proofs.Variables.{HoldBelow}
use Rattle.dcx_fit.specs.Fit.{IsMet}
use Rattle.dcx_fit.proofs.parameters.are_met.Given as goal

abbrev pub invariant-loop-parameter : goal.invariant-loop-parameter
invariant-loop-parameter l = HoldBelow (IsMet l.setting) l.parameters l.parameter-index
