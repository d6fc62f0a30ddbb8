-- The rows of so many groups are added.
use Rattle.std.proofs.Common.{◌≡◌, map}
use Rattle.dcx_shape.specs.Shape.{sides_of}
use Rattle.dcx_atom.specs.Graph.{placed_row, rows_below}
use Rattle.dcx_fold.specs.Folds.{group_rows}
use Rattle.dcx_fold.proofs.fold_graphs.fold_rows.Given as goal

abbrev pub invariant-loop-entry : goal.invariant-loop-entry
invariant-loop-entry l = map placed_row l.rows.items ≡ rows_below l.entry (group_rows l.folding.fold l.folding.axis (sides_of l.from))
