-- From the same columns a setting has one answer or stop, and leaves one list of columns.
use Rattle.dcx_cache.proofs.WarmRuns.{has_one_warm_end}
use Rattle.dcx_cache.proofs.laws.one_warm_answer.Goals as goal

pub returns : goal.returns
returns c = has_one_warm_end
