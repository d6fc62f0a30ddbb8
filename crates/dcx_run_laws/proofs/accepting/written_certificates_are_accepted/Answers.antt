-- What is written as a certificate is accepted.
use Rattle.dcx_run_laws.proofs.Written as holds
use Rattle.dcx_run_laws.proofs.accepting.written_certificates_are_accepted.Goals as goal

pub returns : goal.returns
returns c = holds.written_certificates_are_accepted
