-- The pass raises no bound.
use Rattle.dcx_cert_collect.proofs.LawsHold.{collected_is_a_bound}
use Rattle.dcx_cert_collect.proofs.laws.collected_is_a_bound.Goals as goal

pub returns : goal.returns
returns c = collected_is_a_bound
