-- A program of formed nodes is the linear program of their forms and rows, with sums and multiples worth what they are.
use Rattle.std.proofs.Common.{refl, ap, ◌∙◌}
use Rattle.dcx_linear.specs.FormLaws.{linear_sum_value, linear_change_value}
use Rattle.dcx_entries.specs.Nodes.{table_forms}
use Rattle.dcx_graph.proofs.AsLinear.{minus_one_value, is_reduction}
use Rattle.dcx_graph.proofs.laws.programs_are_reductions.Goals as goal

pub returns : goal.returns
returns g c =
    let t = g.C.Coef in
    let m = g.met.C.Coef in
    λ rules p s table q params is rows h.
    is_reduction t.of_number t.number_of t.sum_gives t.change_gives t.value_at params
    (λ f k r u e. linear_sum_value t.value_at t.number_of (λ d y z l. ap (λ w. t.value_at w z) (m.told_number d y l) ∙ m.number_value y z) u params t.sum_gives
    (λ a b d l. m.sum_value a b d params l) f k r e)
    (λ change f r u e. linear_change_value t.value_at t.number_of (λ d y z l. ap (λ w. t.value_at w z) (m.told_number d y l) ∙ m.number_value y z) u params t.change_gives
    (λ change a d l. m.change_value change a d params l) change f r e)
    minus_one_value (table_forms table) rules p s table q is refl rows h
