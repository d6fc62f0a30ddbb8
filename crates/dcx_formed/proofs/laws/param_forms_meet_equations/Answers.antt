-- Nodes that are formed of affine numbers meet the equations at every setting.
use Rattle.dcx_formed.proofs.LawsHold.{param_forms_meet_equations}
use Rattle.dcx_formed.proofs.laws.param_forms_meet_equations.Goals as goal

pub returns : goal.returns
returns c = param_forms_meet_equations
