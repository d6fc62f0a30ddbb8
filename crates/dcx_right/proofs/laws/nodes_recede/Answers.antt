-- Nodes recede.
use Rattle.dcx_right.proofs.RayLawsHold.{nodes_recede}
use Rattle.dcx_right.proofs.laws.nodes_recede.Goals as goal

pub returns : goal.returns
returns c = nodes_recede
