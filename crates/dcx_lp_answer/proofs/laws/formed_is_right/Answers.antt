-- The multiplier that is formed is the one by which an answer is right.
use Rattle.dcx_lp_answer.proofs.Formed as formed
use Rattle.dcx_lp_answer.proofs.laws.formed_is_right.Goals as goal

pub returns : goal.returns
returns c = formed.formed_is_right
