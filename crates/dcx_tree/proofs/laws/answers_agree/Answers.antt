-- At one setting there is one kind of answer, and one optimal value.
use Rattle.dcx_tree.proofs.LawsHold.{answers_agree}
use Rattle.dcx_tree.proofs.laws.answers_agree.Goals as goal

pub returns : goal.returns
returns c = answers_agree
