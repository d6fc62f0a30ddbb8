-- Multiplying or dividing a form has one answer.
use Rattle.dcx_linear.specs.FormLaws.{one_linear_change}
use Rattle.dcx_linear.proofs.laws.one_changed_form.Goals as goal

pub returns : goal.returns
returns g c = λ change f r s a b. one_linear_change g.C.Coef.number_of g.C.Coef.change_gives g.met.C.Coef.one_change change f r s a b
