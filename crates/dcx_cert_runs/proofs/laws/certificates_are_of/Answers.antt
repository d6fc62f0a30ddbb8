-- A certificate has the outline of its problem.
use Rattle.dcx_cert_runs.proofs.Shown.{certificates_are_of}
use Rattle.dcx_cert_runs.proofs.laws.certificates_are_of.Goals as goal

pub returns : goal.returns
returns c = certificates_are_of
