-- Bytes spell one list of settings.
use Rattle.dcx_settings.proofs.OneList.{settings_one}
use Rattle.dcx_settings.proofs.laws.settings_are_one.Goals as goal

pub returns : goal.returns
returns c = settings_one
