-- A certificate that passes its checks shows its answer.
use Rattle.dcx_cert_check.proofs.Shows.{passed_are_shown}
use Rattle.dcx_cert_check.proofs.laws.passed_are_shown.Goals as goal

pub returns : goal.returns
returns c = passed_are_shown
