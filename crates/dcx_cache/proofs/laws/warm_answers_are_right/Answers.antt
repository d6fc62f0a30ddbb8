-- An answer from kept columns is right for the problem at its setting.
use Rattle.dcx_cache.proofs.WarmRuns.{warm_answers_are_right}
use Rattle.dcx_cache.proofs.laws.warm_answers_are_right.Goals as goal

pub returns : goal.returns
returns c = warm_answers_are_right
