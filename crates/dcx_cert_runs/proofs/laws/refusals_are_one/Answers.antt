-- One section is refused first, with one fault, or all pass.
use Rattle.dcx_cert_runs.proofs.OneRefusal.{refusals_are_one}
use Rattle.dcx_cert_runs.proofs.laws.refusals_are_one.Goals as goal

pub returns : goal.returns
returns c = refusals_are_one
