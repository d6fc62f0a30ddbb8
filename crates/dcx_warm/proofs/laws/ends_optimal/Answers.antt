-- The listed columns fill the basis, and the dual simplex keeps costs from being positive.
use Rattle.dcx_warm.proofs.Ending.{ends_optimal}
use Rattle.dcx_warm.proofs.laws.ends_optimal.Goals as goal

pub returns : goal.returns
returns c = ends_optimal
