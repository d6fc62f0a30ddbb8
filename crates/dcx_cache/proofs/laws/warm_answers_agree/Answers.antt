-- A warm answer has the status and the value of a fresh one.
use Rattle.dcx_cache.proofs.WarmRuns.{warm_answers_agree}
use Rattle.dcx_cache.proofs.laws.warm_answers_agree.Goals as goal

pub returns : goal.returns
returns c = warm_answers_agree
