-- A fault of the tokens is that of the file, and without one the settings are those of the tokens.
use Rattle.dcx_settings.proofs.file.parse_settings.Goals as goal
use Rattle.dcx_settings.proofs.Files.{tokens_refused, tokens_read}

pub returns-in-Some : goal.returns-in-Some
returns-in-Some c = tokens_refused _ _ _ _ _ c.in_ok-text.ensures.0 c.in_ok-text.ensures.1 c.in_ok-lexed.ensures c.in-Some.ensures

pub returns : goal.returns
returns c = tokens_read _ _ _ _ _ _ c.in_ok-text.ensures.0 c.in_ok-text.ensures.1 c.in_ok-lexed.ensures c.in-None.ensures c.as_slice.ensures c.settings_of.ensures
