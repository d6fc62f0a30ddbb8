-- The values that are told of the parameters so far are those of the setting.
use Rattle.dcx_cert_check.specs.SingleChecks.{parameter_is}
use Rattle.dcx_cert_check.proofs.Steps.{PassBelow, at_place}
use Rattle.dcx_cert_check.proofs.parameters.check_told.Given as goal

abbrev pub invariant-parameters : goal.invariant-parameters
invariant-parameters l = PassBelow (at_place l.parameters (parameter_is l.told l.setting)) l.k
