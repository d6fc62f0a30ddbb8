-- A sum of forms is worth the sum.
use Rattle.std.proofs.Common.{ap, ◌∙◌}
use Rattle.dcx_linear.specs.FormLaws.{linear_sum_value}
use Rattle.dcx_linear.proofs.laws.sum_of_forms.Goals as goal

pub returns : goal.returns
returns g c =
    let t = g.C.Coef in
    let m = g.met.C.Coef in
    λ f k h x p s. linear_sum_value t.value_at t.number_of (λ c y q e. ap (λ d. t.value_at d q) (m.told_number c y e) ∙ m.number_value y q) x p t.sum_gives (λ a b c e. m.sum_value a b c p e) f k h s
