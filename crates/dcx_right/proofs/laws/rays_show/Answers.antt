-- Rays of a problem over a tree show that it is unbounded.
use Rattle.dcx_right.proofs.RayLawsHold.{rays_show}
use Rattle.dcx_right.proofs.laws.rays_show.Goals as goal

pub returns : goal.returns
returns c = rays_show
