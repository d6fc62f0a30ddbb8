-- The nodes of a tree are lawful.
use Rattle.dcx_tree.proofs.LawsHold.{trees_are_lawful}
use Rattle.dcx_tree.proofs.laws.trees_are_lawful.Goals as goal

pub returns : goal.returns
returns c = trees_are_lawful
