-- An affine number at a setting is worth what it is at the setting's numbers.
use Rattle.dcx_linear.proofs.Settings.{plus_value}
use Rattle.dcx_linear.proofs.laws.number_at_setting.Goals as goal

pub returns : goal.returns
returns c = λ names setting p f x named stands listed e. plus_value names setting p stands f.constant f.terms x named listed e
