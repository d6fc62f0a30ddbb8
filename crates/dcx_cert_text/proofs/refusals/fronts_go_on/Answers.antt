-- Fewer lines agree where more do.
use Rattle.dcx_cert_text.proofs.Fronts.{goes_on}
use Rattle.dcx_cert_text.proofs.refusals.fronts_go_on.Goals as goal

pub returns : goal.returns
returns c = goes_on
