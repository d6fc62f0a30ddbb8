-- A line is told only of bytes that are no text.
use Rattle.dcx_cert_text.proofs.Fronts.{only_memory}
use Rattle.dcx_cert_text.proofs.refusals.texts_are_not_refused.Goals as goal

pub returns : goal.returns
returns c = only_memory
