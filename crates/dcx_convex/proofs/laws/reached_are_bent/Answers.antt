-- Reached nodes have a curvature.
use Rattle.dcx_convex.proofs.LawsHold.{reached_are_bent}
use Rattle.dcx_convex.proofs.laws.reached_are_bent.Goals as goal

pub returns : goal.returns
returns c = reached_are_bent
