-- Each node's rule tells its value and judgement.
use Rattle.dcx_convex.proofs.LawsHold.{nodes_are_told}
use Rattle.dcx_convex.proofs.laws.nodes_are_told.Goals as goal

pub returns : goal.returns
returns c = nodes_are_told
