-- A tree at the root box without a value shows that there is no whole point.
use Rattle.dcx_right.proofs.Trees.{trees_show_none}
use Rattle.dcx_right.proofs.laws.trees_show_none.Goals as goal

pub returns : goal.returns
returns c = trees_show_none
