-- Two right answers at a setting have one status and one value.
use Rattle.dcx_cache.proofs.Agreeing.{right_answers_agree}
use Rattle.dcx_cache.proofs.laws.answers_agree.Goals as goal

pub returns : goal.returns
returns c = right_answers_agree
