-- The rows so far, and then those that are left, are all that are kept; and the rows of the constraints that are left are there.
use Rattle.std.proofs.Common.{◌≡◌, ◌+◌, ◌≤◌, ◌++◌, length, drop}
use Rattle.std.specs.Prelude.{sum_by}
use Rattle.dcx_unknowns.specs.Layout.{constraint_rows}
use Rattle.dcx_iis.specs.Steps.{flagged, rows_from}
use Rattle.dcx_iis.proofs.program.rows_kept.Given as goal

abbrev pub invariant-constraints : goal.invariant-constraints
invariant-constraints l = record {
  made : l.copies.items ++ rows_from (flagged l.kept) l.index (drop l.index l.constraints) (drop l.next l.rows) ≡ rows_from (flagged l.kept) 0 l.constraints l.rows;
  rows : l.next + sum_by constraint_rows (drop l.index l.constraints) ≤ length l.rows;
}
