-- Settings have one certificate.
use Rattle.dcx_cert_runs.proofs.OneCertificate.{certificates_are_one}
use Rattle.dcx_cert_runs.proofs.laws.certificates_are_one.Goals as goal

pub returns : goal.returns
returns c = certificates_are_one
