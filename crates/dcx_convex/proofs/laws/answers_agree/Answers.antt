-- There is one kind of answer, and one value.
use Rattle.dcx_convex.proofs.LawsHold.{answers_agree}
use Rattle.dcx_convex.proofs.laws.answers_agree.Goals as goal

pub returns : goal.returns
returns c = answers_agree
