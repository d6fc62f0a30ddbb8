-- The root box has all whole points.
use Rattle.dcx_right.proofs.Trees.{root_has_all}
use Rattle.dcx_right.proofs.laws.root_has_all.Goals as goal

pub returns : goal.returns
returns c = root_has_all
