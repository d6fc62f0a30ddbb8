-- The kinds of a reduced program begin with those of the unknowns of the variables.
use Rattle.std.proofs.Common.{◌≡◌, ◌≤◌, List, length, map, ap, ◌∙◌, arith, length-append}
use Rattle.dcx_convex.specs.Rules.{Rules, Plain, Parametrized}
use Rattle.dcx_tree.specs.declared.problem.Problem.{Problem}
use Rattle.dcx_linear.specs.declared.row.UnknownKind.{UnknownKind}
use Rattle.dcx_unknowns.specs.Layout.{is_reduced, aux_kind, aux_below, unknown_kinds}
use Rattle.dcx_unknowns.specs.Unknowns.{variable_kinds, variable_unknowns}
use Rattle.dcx_unknowns.proofs.Owners.{are_numbered}
use Rattle.dcx_branch.specs.Unknowns.{ProgramsHaveUnknowns}

enough : (rules : Rules) (p : Problem) (kinds : List UnknownKind) → kinds ≡ unknown_kinds rules p → variable_unknowns p.variables ≤ length kinds
enough rules p kinds e =
    let own = (are_numbered p.variables).kinds in
    let all = ap length e ∙ length-append (variable_kinds p.variables) (map aux_kind (aux_below p.tree (is_reduced rules p) (length p.tree))) in
    omega (arith, own, all)

pub programs_have_unknowns : ProgramsHaveUnknowns
programs_have_unknowns = record {
  numbers = λ p setting q h. enough Plain p q.kinds h.program.kinds_are;
  affine = λ p setting other m q h f. enough Parametrized p q.kinds (f.0.2 ∙ h.program.kinds_are);
}
