-- A form at a setting is no wider than before.
use Rattle.dcx_linear.proofs.SettingForms.{form_at-width}
use Rattle.dcx_linear.proofs.setting_laws.widths_at_setting.Goals as goal

pub returns : goal.returns
returns c =
    λ setting n f h e a. form_at-width setting n f h e a
