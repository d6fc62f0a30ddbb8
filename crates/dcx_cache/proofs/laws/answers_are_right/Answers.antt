-- The answer at a setting is right for the problem there.
use Rattle.dcx_cache.proofs.Answered.{answers_are_right}
use Rattle.dcx_cache.proofs.laws.answers_are_right.Goals as goal

pub returns : goal.returns
returns c = answers_are_right
