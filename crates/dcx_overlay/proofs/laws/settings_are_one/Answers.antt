-- Lines give one list of settings, and so does a trial.
use Rattle.dcx_overlay.proofs.OneSetting.{settings_are_one}
use Rattle.dcx_overlay.proofs.laws.settings_are_one.Goals as goal

pub returns : goal.returns
returns c = settings_are_one
