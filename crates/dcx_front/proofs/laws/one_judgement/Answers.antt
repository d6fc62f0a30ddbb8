-- Two judgements of one problem are one, where neither wants memory.
use Rattle.dcx_front.proofs.OneCheck as holds
use Rattle.dcx_front.proofs.laws.one_judgement.Goals as goal

pub returns : goal.returns
returns c = holds.one_judged
