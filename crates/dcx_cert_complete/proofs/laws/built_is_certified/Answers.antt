-- What is built is certified.
use Rattle.dcx_cert_complete.proofs.Certified.{built_is_certified}
use Rattle.dcx_cert_complete.proofs.laws.built_is_certified.Goals as goal

pub returns : goal.returns
returns c = built_is_certified
