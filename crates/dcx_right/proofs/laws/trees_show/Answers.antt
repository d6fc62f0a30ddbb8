-- No whole point of a tree's box is better than the tree's value, and without a value there is none.
use Rattle.dcx_right.proofs.Trees.{trees_show}
use Rattle.dcx_right.proofs.laws.trees_show.Goals as goal

pub returns : goal.returns
returns c = trees_show
