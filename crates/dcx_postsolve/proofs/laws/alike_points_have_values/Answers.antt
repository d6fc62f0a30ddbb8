-- Alike points have the same values.
use Rattle.dcx_postsolve.proofs.Carrying.{alike_value}
use Rattle.dcx_postsolve.proofs.laws.alike_points_have_values.Goals as goal

pub returns : goal.returns
returns c = alike_value
