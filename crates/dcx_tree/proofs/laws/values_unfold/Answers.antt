-- Nodes have the values of their expressions.
use Rattle.dcx_tree.proofs.Expressions.{values_unfold}
use Rattle.dcx_tree.proofs.laws.values_unfold.Goals as goal

pub returns : goal.returns
returns c = values_unfold
