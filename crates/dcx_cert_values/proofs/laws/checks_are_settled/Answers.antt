-- Each check of forming passes or fails and not both, with one fault.
use Rattle.dcx_cert_values.proofs.Settling.{settled_here}
use Rattle.dcx_cert_values.proofs.laws.checks_are_settled.Goals as goal

pub returns : goal.returns
returns c = settled_here
