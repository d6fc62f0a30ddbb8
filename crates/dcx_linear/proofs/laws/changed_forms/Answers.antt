-- A form that is multiplied or divided is worth so.
use Rattle.std.proofs.Common.{ap, ◌∙◌}
use Rattle.dcx_linear.specs.FormLaws.{linear_change_value}
use Rattle.dcx_linear.proofs.laws.changed_forms.Goals as goal

pub returns : goal.returns
returns g c =
    let t = g.C.Coef in
    let m = g.met.C.Coef in
    λ change f h x p s. linear_change_value t.value_at t.number_of (λ c y q e. ap (λ d. t.value_at d q) (m.told_number c y e) ∙ m.number_value y q) x p t.change_gives
    (λ change a c e. m.change_value change a c p e) change f h s
