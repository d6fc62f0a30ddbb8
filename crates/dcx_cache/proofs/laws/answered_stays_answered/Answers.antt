-- What a fresh solve answers is answered from kept columns too.
use Rattle.dcx_cache.proofs.WarmRuns.{answered_stays_answered}
use Rattle.dcx_cache.proofs.laws.answered_stays_answered.Goals as goal

pub returns : goal.returns
returns c = answered_stays_answered
