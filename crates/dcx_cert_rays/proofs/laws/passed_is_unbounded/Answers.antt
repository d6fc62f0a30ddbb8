-- What the checks of a ray show.
use Rattle.dcx_cert_rays.proofs.Shown.{passed_is_unbounded}
use Rattle.dcx_cert_rays.proofs.laws.passed_is_unbounded.Goals as goal

pub returns : goal.returns
returns c = passed_is_unbounded
