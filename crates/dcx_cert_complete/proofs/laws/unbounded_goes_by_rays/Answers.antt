-- Unboundedness goes by rays.
use Rattle.dcx_cert_complete.proofs.Descent.{unbounded_goes_by_rays}
use Rattle.dcx_cert_complete.proofs.laws.unbounded_goes_by_rays.Goals as goal

pub returns : goal.returns
returns c = unbounded_goes_by_rays
