-- A sum of parts is worth the form that it starts from and what each part is worth.
use Rattle.std.proofs.Common.{ap, ◌∙◌}
use Rattle.dcx_linear.specs.FormLaws.{linear_sum_value, linear_change_value}
use Rattle.dcx_linear.proofs.PartSums.{parts_sum_value}
use Rattle.dcx_linear.proofs.sum_laws.sums_of_parts.Goals as goal

pub returns : goal.returns
returns g c =
    let t = g.C.Coef in
    let m = g.met.C.Coef in
    λ ps f h x p s. parts_sum_value t.number_of t.sum_gives t.change_gives t.value_at x p
    (linear_sum_value t.value_at t.number_of (λ c y q e. ap (λ d. t.value_at d q) (m.told_number c y e) ∙ m.number_value y q) x p t.sum_gives (λ a b c e. m.sum_value a b c p e))
    (linear_change_value t.value_at t.number_of (λ c y q e. ap (λ d. t.value_at d q) (m.told_number c y e) ∙ m.number_value y q) x p t.change_gives (λ change a c e. m.change_value change a c p e))
    ps f h s
