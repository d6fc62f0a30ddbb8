-- A variable that isn't given is inside.
use Rattle.std.proofs.Common.{refl}
use Rattle.dcx_domain.proofs.Variables.{none_inside}
use Rattle.dcx_domain.proofs.point.given_outside.Goals as goal

pub returns-in-None-clause-inside : goal.returns-in-None-clause-inside
returns-in-None-clause-inside c = ((λ e. none_inside c.args.variable.now c.args.point.now c.in-None.ensures), (λ h. refl))
