-- Each check tells one thing.
use Rattle.dcx_cert_rays.proofs.Settled.{ray_settled}
use Rattle.dcx_cert_rays.proofs.laws.ray_checks_are_settled.Goals as goal

pub returns : goal.returns
returns c = ray_settled
