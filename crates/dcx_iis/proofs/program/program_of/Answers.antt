-- The rows of the set name no further unknowns, and nothing is to be small.
use Rattle.std.proofs.Common.{List, ap, ap₂, ◌∙◌}
use Rattle.dcx_frac.specs.declared.fraction.Frac.{Frac}
use Rattle.dcx_tree.specs.declared.constraint.Constraint.{Constraint}
use Rattle.dcx_linear.specs.declared.row.Row.{Row}
use Rattle.dcx_std.specs.GivenRows.{given}
use Rattle.dcx_iis.specs.Steps.{flagged, rows_from}
use Rattle.dcx_iis.proofs.Given.{set_program, rows_known, number_known}
use Rattle.dcx_iis.proofs.program.program_of.Goals as goal

pub invariant_of-result : goal.invariant_of-result
invariant_of-result c =
    let rows = c.rows-rows.result.now in
    let cs = c.as_slice-constraints.result.now in
    let made = c.from_vec.ensures ∙ c.in_ok-copies.ensures ∙ ap (λ (rs : List (Row Frac)). rows_from (flagged c.args.kept.now) 0 cs rs) c.as_slice-2.ensures in
    let same = c.from_vec-kinds.ensures ∙ c.in_ok-from_slice.ensures.items ∙ c.as_slice.ensures in
    record {
      rows_known = rows_known (flagged c.args.kept.now) cs rows.rows c.from_vec.result rows.kinds c.from_vec-kinds.result made same rows.rows_known;
      objective_known = number_known c.number.result c.zero.result c.from_vec-kinds.result c.number.ensures;
    }

pub returns : goal.returns
returns c =
    let p = c.args.problem.now in
    let q = c.args.reduced.now.program in
    let set = flagged c.args.kept.now in
    let made = c.from_vec.ensures ∙ c.in_ok-copies.ensures ∙ ap₂ (λ (xs : List Constraint) (rs : List (Row Frac)). rows_from set 0 xs rs) c.as_slice-constraints.ensures
    (c.as_slice-2.ensures ∙ c.rows-rows.ensures.rows) in
    let same = c.from_vec-kinds.ensures ∙ c.in_ok-from_slice.ensures.items ∙ c.as_slice.ensures ∙ c.rows-rows.ensures.kinds in
    ap (given c.from_vec-kinds.result c.from_vec.result) c.number.ensures ∙ set_program p q set c.from_vec-kinds.result c.from_vec.result c.zero.result same made c.zero.ensures
