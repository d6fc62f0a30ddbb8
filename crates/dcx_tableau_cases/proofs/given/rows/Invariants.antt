-- The rows so far name no other unknowns.
use Rattle.std.proofs.Common.{◌≤◌}
use Rattle.dcx_linear.specs.Widths.{rows_width}
use Rattle.dcx_tableau_cases.proofs.given.rows.Given as goal

abbrev pub invariant-lines : goal.invariant-lines
invariant-lines l = rows_width l.rows.items ≤ l.count
