-- A coefficient times a form is worth the product.
use Rattle.std.proofs.Common.{ap, ◌∙◌}
use Rattle.dcx_linear.proofs.MultipleLaws.{multiple_value}
use Rattle.dcx_linear.proofs.sum_laws.multiples_of_forms.Goals as goal

pub returns : goal.returns
returns g c =
    let t = g.C.Coef in
    let m = g.met.C.Coef in
    λ c f h x p s. multiple_value t.number_of t.change_gives c t.value_at (λ c y q e. ap (λ d. t.value_at d q) (m.told_number c y e) ∙ m.number_value y q) x p
    (λ change a d e. m.change_value change a d p e) f h s
