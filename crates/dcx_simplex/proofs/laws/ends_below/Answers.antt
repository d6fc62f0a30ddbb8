-- The pivots done are as many as the limit allows.
use Rattle.dcx_simplex.proofs.Limits.{ends_below}
use Rattle.dcx_simplex.proofs.laws.ends_below.Goals as goal

-- the law, as it is proved
pub returns : goal.returns
returns c = ends_below
