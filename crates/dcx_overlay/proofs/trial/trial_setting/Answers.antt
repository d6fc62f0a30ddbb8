-- The name that is put is that of the trial's parameter, with the number as a scalar.
use Rattle.std.proofs.Common.{◌∙◌, rules}
use Rattle.dcx_overlay.proofs.trial.trial_setting.Goals as goal

pub returns : goal.returns
returns c = (c.in_ok-scalar.field-0, c.in_ok-scalar.ensures, c.in_ok-put.ensures.ok ∙ search rules)
