-- The laws of nodes.
use Rattle.dcx_script_laws.proofs.Treed.{trees_hold}
use Rattle.dcx_script_laws.proofs.trees.trees.Goals as goal

pub returns : goal.returns
returns c = trees_hold
