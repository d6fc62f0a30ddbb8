-- The names so far are those of parameters.
use Rattle.dcx_point.specs.Pairs.{names_of}
use Rattle.dcx_domain.proofs.Variables.{HoldBelow}
use Rattle.dcx_fit.specs.Fit.{IsNamed}
use Rattle.dcx_fit.proofs.parameters.are_known.Given as goal

abbrev pub invariant-loop-k : goal.invariant-loop-k
invariant-loop-k l = HoldBelow (IsNamed l.parameters) (names_of l.setting) l.k
