-- From the same columns settings one after another have one list of answers and stops.
use Rattle.dcx_cache.proofs.WarmRuns.{have_one_warm_ends}
use Rattle.dcx_cache.proofs.laws.one_warm_list.Goals as goal

pub returns : goal.returns
returns c = have_one_warm_ends
