-- The variables of the problem are gone through.
use Rattle.std.proofs.Common.{List, length, IsNone, ◌↔◌, ap, subst, arith}
use Rattle.std.specs.List.{All}
use Rattle.dcx_call.specs.declared.attribute.Variable.{Variable}
use Rattle.dcx_domain.specs.Points.{IsInside}
use Rattle.dcx_tree.proofs.Few.{few_variables}
use Rattle.dcx_domain.proofs.Points.{points_hold}
use Rattle.dcx_domain.proofs.point.point_outside.Goals as goal

pub first_outside-requires : goal.first_outside-requires
first_outside-requires c = let few = few_variables c.args.problem.now in let same = ap length c.as_slice.ensures in omega (arith, few, same)

pub returns-clause-inside : goal.returns-clause-inside
returns-clause-inside c =
    let told : IsNone c.first_outside.result ↔ All (λ v. IsInside v c.args.point.now) c.args.problem.now.variables =
    subst (λ (vs : List Variable). IsNone c.first_outside.result ↔ All (λ v. IsInside v c.args.point.now) vs) c.as_slice.ensures c.first_outside.ensures.inside in
    let law = points_hold c.args.problem.now c.args.point.now in
    ((λ n. law.1 (told.0 n)), (λ h. told.1 (law.0 h)))
