-- The names of the variables are distinct, and their unknowns are few.
use Rattle.std.proofs.Common.{◌<◌, List, arith, map, sym, subst}
use Rattle.std.specs.List.{IsDistinct}
use Rattle.std.proofs.Props.{props}
use Rattle.std.proofs.Math.Logic.{∥∥₁_elim}
use Rattle.dcx_point.specs.Pairs.{same_name}
use Rattle.dcx_call.specs.declared.attribute.Variable.{Variable}
use Rattle.dcx_call.specs.declared.attribute.Parameter.{Parameter}
use Rattle.dcx_tree.proofs.Sublists.{distinct_front}
use Rattle.dcx_unknowns.specs.Unknowns.{variable_unknowns}
use Rattle.dcx_unknowns.proofs.Domains.{unknowns_few}
use Rattle.dcx_postsolve.proofs.point.point_of_unknowns.Goals as goal

pub point_of_variables-requires-clause-distinct : goal.point_of_variables-requires-clause-distinct
point_of_variables-requires-clause-distinct c =
    let p = c.args.problem.now in
    subst (λ (vs : List Variable). IsDistinct same_name (map (λ (v : Variable). v.name) vs)) (sym c.as_slice.ensures)
    (∥∥₁_elim p.declared (hlevel props) (λ d. distinct_front (map (λ (v : Variable). v.name) p.variables) (map (λ (q : Parameter). q.name) p.parameters) d.distinct))

pub point_of_variables-requires-clause-few : goal.point_of_variables-requires-clause-few
point_of_variables-requires-clause-few c =
    let few = unknowns_few c.args.problem.now in
    subst (λ (vs : List Variable). variable_unknowns vs < 4294967296) (sym c.as_slice.ensures) (omega (arith, few))
