-- So many entries have their rows.
use Rattle.std.proofs.Common.{◌≡◌, map}
use Rattle.dcx_atom.specs.Graph.{placed_row, rows_below}
use Rattle.dcx_elem.specs.Rows.{piece_rows}
use Rattle.dcx_elem.proofs.rows.entrywise_graph.Given as goal

abbrev pub invariant-loop-entry : goal.invariant-loop-entry
invariant-loop-entry l = map placed_row l.rows.items ≡ rows_below l.entry (piece_rows l.bend l.pieces)
