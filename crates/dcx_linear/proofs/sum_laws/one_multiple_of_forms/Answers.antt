-- A coefficient times a form has one answer.
use Rattle.dcx_linear.proofs.MultipleLaws.{one_multiple}
use Rattle.dcx_linear.proofs.sum_laws.one_multiple_of_forms.Goals as goal

pub returns : goal.returns
returns g c =
    let t = g.C.Coef in
    let m = g.met.C.Coef in
    λ c f r s h k. one_multiple t.number_of t.change_gives c m.one_change f r s h k
