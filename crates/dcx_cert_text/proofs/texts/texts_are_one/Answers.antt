-- The first line tells the format, and each section is read in one way.
use Rattle.dcx_cert_text.proofs.OneText.{one_text}
use Rattle.dcx_cert_text.proofs.texts.texts_are_one.Goals as goal

pub returns : goal.returns
returns c = one_text
