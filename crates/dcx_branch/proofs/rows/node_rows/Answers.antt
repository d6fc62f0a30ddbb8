-- The rows of a node name known unknowns alone.
use Rattle.std.proofs.Common.{◌≡◌, ◌≤◌, ◌++◌, List, length, sym, ap, ap₂, ◌∙◌, subst, arith}
use Rattle.dcx_frac.specs.declared.fraction.Frac.{Frac}
use Rattle.dcx_linear.specs.declared.form.Form.{Form}
use Rattle.dcx_linear.specs.declared.row.Row.{Row}
use Rattle.dcx_linear.specs.Widths.{form_width}
use Rattle.dcx_std.specs.GivenRows.{given}
use Rattle.dcx_branch.specs.Rows.{bound_rows}
use Rattle.dcx_branch.proofs.Units.{node_width}
use Rattle.dcx_branch.proofs.rows.node_rows.Goals as goal

pub invariant_of-result : goal.invariant_of-result
invariant_of-result c =
    let rows = c.args.rows.now in
    let bs = c.args.bounds.now in
    let made = c.from_vec.ensures ∙ c.in-Ok.ensures ∙ ap₂ (λ (xs ys : List (Row Frac)). (xs ++ ys) ++ bound_rows bs) c.new-all.ensures.items c.as_slice.ensures in
    let same = c.in_ok-both.ensures {u = tt} in
    let count : length c.in_ok-both.both.1 ≡ length rows.kinds = ap length same.1 in
    let width = node_width rows.rows c.from_vec.result bs (length rows.kinds) rows.rows_known c.requires.known made in
    let known = rows.objective_known in
    let cost = subst (λ (f : Form Frac). form_width f ≤ length rows.kinds) (sym same.0) known in
    record { rows_known = omega (arith, width, count); objective_known = omega (arith, cost, count) }

pub returns-in-Ok : goal.returns-in-Ok
returns-in-Ok c =
    let bs = c.args.bounds.now in
    let made = c.from_vec.ensures ∙ c.in-Ok.ensures ∙ ap₂ (λ (xs ys : List (Row Frac)). (xs ++ ys) ++ bound_rows bs) c.new-all.ensures.items c.as_slice.ensures in
    let same = c.in_ok-both.ensures {u = tt} in
    ap (λ ks. given ks c.from_vec.result c.in_ok-both.both.0) same.1
    ∙ ap₂ (λ (rs : List (Row Frac)) (f : Form Frac). given c.args.rows.now.kinds rs f) made same.0
