-- One certificate, or one stop.
use Rattle.dcx_cert_build.proofs.OneCert.{one_cert}
use Rattle.dcx_cert_build.proofs.laws.certs_are_one.Goals as goal

pub returns : goal.returns
returns c = one_cert
