-- Adding two forms has one answer.
use Rattle.dcx_linear.specs.FormLaws.{one_linear_sum}
use Rattle.dcx_linear.proofs.laws.one_sum_of_forms.Goals as goal

pub returns : goal.returns
returns g c = λ f h r s a b. one_linear_sum g.C.Coef.number_of g.C.Coef.sum_gives g.met.C.Coef.one_sum f h r s a b
