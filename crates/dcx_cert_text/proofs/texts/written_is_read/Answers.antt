-- The sections are those of their text, which has no others.
use Rattle.dcx_cert_text.proofs.OneText.{read_again}
use Rattle.dcx_cert_text.proofs.texts.written_is_read.Goals as goal

pub returns : goal.returns
returns c = read_again
