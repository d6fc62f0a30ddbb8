-- Two answers that the bytes of a script give are one, where neither wants memory.
use Rattle.dcx_front.proofs.OneAnswer as holds
use Rattle.dcx_front.proofs.laws.one_answer.Goals as goal

pub returns : goal.returns
returns c = holds.one_answer
