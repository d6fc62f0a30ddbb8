-- A tree at the root box with the objective of a whole point shows that no other is better.
use Rattle.dcx_right.proofs.Trees.{trees_show_optima}
use Rattle.dcx_right.proofs.laws.trees_show_optima.Goals as goal

pub returns : goal.returns
returns c = trees_show_optima
