-- The rows so far reach to so many unknowns at most.
use Rattle.std.proofs.Common.{◌≤◌}
use Rattle.dcx_linear.specs.Widths.{rows_width}
use Rattle.dcx_part_cases.proofs.programs.rows.list.Given as goal

abbrev pub invariant-texts : goal.invariant-texts
invariant-texts l = rows_width l.rows.items ≤ l.fn.count
