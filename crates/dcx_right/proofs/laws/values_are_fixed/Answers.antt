-- The side whose value counts reaches no variable.
use Rattle.dcx_right.proofs.RayLawsHold.{values_are_fixed}
use Rattle.dcx_right.proofs.laws.values_are_fixed.Goals as goal

pub returns : goal.returns
returns c = values_are_fixed
