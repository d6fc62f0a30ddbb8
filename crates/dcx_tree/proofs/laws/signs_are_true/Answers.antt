-- Signs are true of values.
use Rattle.dcx_tree.proofs.LawsHold.{signs_are_true}
use Rattle.dcx_tree.proofs.laws.signs_are_true.Goals as goal

pub returns : goal.returns
returns c = signs_are_true
