-- Rays are unbounded.
use Rattle.dcx_right.proofs.RayLawsHold.{rays_are_unbounded}
use Rattle.dcx_right.proofs.laws.rays_are_unbounded.Goals as goal

pub returns : goal.returns
returns c = rays_are_unbounded
