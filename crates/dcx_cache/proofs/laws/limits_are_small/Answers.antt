-- A limit that stops a run is bounded by the rows and columns of its program.
use Rattle.dcx_cache.proofs.OneEnd.{limits_are_small}
use Rattle.dcx_cache.proofs.laws.limits_are_small.Goals as goal

pub returns : goal.returns
returns c = limits_are_small
