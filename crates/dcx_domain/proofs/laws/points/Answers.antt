-- The law of points.
use Rattle.dcx_domain.proofs.Points.{points_hold}
use Rattle.dcx_domain.proofs.laws.points.Goals as goal

pub returns : goal.returns
returns c = points_hold
