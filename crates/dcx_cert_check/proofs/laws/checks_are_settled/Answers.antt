-- Each check passes or fails and not both, with one fault.
use Rattle.dcx_cert_check.proofs.SingleSettled.{checks_settled}
use Rattle.dcx_cert_check.proofs.laws.checks_are_settled.Goals as goal

pub returns : goal.returns
returns c = checks_settled
