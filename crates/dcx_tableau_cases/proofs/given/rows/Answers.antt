-- One row more names no other unknowns.
use Rattle.std.proofs.Common.{◌≤◌, sym, subst}
use Rattle.dcx_linear.specs.Widths.{rows_width}
use Rattle.dcx_tableau_cases.proofs.Widths.{rows_narrow}
use Rattle.dcx_tableau_cases.proofs.given.rows.Goals as goal

pub lines-preserved : goal.lines-preserved
lines-preserved c =
    subst (λ rs. rows_width rs ≤ c.args.count) (sym c.in_ok-push.ensures.items)
    (rows_narrow c.args.count c.lines.rows.items c.in_ok-row.field-0 c.lines.invariant c.in_ok-row.ensures)
