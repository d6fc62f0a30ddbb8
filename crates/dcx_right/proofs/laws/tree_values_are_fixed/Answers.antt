-- The side whose value counts reaches no variable, over a tree.
use Rattle.dcx_right.proofs.RayLawsHold.{tree_values_are_fixed}
use Rattle.dcx_right.proofs.laws.tree_values_are_fixed.Goals as goal

pub returns : goal.returns
returns c = tree_values_are_fixed
