-- Bytes are not both a text and none, and those that are none are so for one reason.
use Rattle.dcx_tokens.proofs.Texts.{text_apart, no_text_one}
use Rattle.dcx_tokens.proofs.laws.texts.Goals as goal

pub returns : goal.returns
returns c = record { apart = text_apart; one = no_text_one }
