-- No more pivots are done than the limit allows.
use Rattle.dcx_simplex.proofs.OneEnd.{stops_at_limit}
use Rattle.dcx_simplex.proofs.laws.stops_at_limit.Goals as goal

pub returns : goal.returns
returns c = stops_at_limit
