-- A form at a setting is worth what it is at the setting's numbers.
use Rattle.dcx_linear.proofs.SettingForms.{form_at-value}
use Rattle.dcx_linear.proofs.setting_laws.forms_at_setting.Goals as goal

pub returns : goal.returns
returns c =
    λ names setting p x f h named stands listed e. form_at-value names setting p stands x f h e named listed
