-- A setting has one answer or one stop.
use Rattle.dcx_cache.proofs.OneEnd.{has_one_end}
use Rattle.dcx_cache.proofs.laws.one_answer.Goals as goal

pub returns : goal.returns
returns c = has_one_end
