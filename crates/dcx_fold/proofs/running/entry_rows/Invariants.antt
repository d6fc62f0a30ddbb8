-- So many entries have their rows.
use Rattle.std.proofs.Common.{◌≡◌, map}
use Rattle.dcx_atom.specs.Graph.{placed_row, rows_below}
use Rattle.dcx_fold.specs.Running.{running_rows}
use Rattle.dcx_fold.proofs.running.entry_rows.Given as goal

abbrev pub invariant-loop-entry : goal.invariant-loop-entry
invariant-loop-entry l = map placed_row l.rows.items ≡ rows_below l.entry running_rows
