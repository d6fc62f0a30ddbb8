-- A tree with a value is one with each smaller value, and one without is one with any.
use Rattle.dcx_right.proofs.Trees.{trees_weaken}
use Rattle.dcx_right.proofs.laws.trees_weaken.Goals as goal

pub returns : goal.returns
returns c = trees_weaken
