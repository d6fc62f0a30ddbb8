-- Bytes agree with a certificate up to each line before the one that is told, and no further.
use Rattle.dcx_cert_text.proofs.Fronts.{one_line}
use Rattle.dcx_cert_text.proofs.refusals.lines_are_one.Goals as goal

pub returns : goal.returns
returns c = one_line
