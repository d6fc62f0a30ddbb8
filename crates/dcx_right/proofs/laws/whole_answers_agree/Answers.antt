-- All whole optima have one value, and where there is one there are whole points.
use Rattle.dcx_right.proofs.Trees.{whole_answers_agree}
use Rattle.dcx_right.proofs.laws.whole_answers_agree.Goals as goal

pub returns : goal.returns
returns c = whole_answers_agree
