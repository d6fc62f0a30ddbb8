-- Steepness is told node by node.
use Rattle.dcx_right.proofs.RayLawsHold.{steepness_is_told}
use Rattle.dcx_right.proofs.laws.steepness_is_told.Goals as goal

pub returns : goal.returns
returns c = steepness_is_told
