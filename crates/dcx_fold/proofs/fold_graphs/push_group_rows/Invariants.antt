-- The rows of so many members are added.
use Rattle.std.proofs.Common.{◌≡◌, ◌++◌, map}
use Rattle.dcx_atom.specs.Axis.{stride_entry}
use Rattle.dcx_atom.specs.Arrays.{joined_below}
use Rattle.dcx_atom.specs.Graph.{placed_row}
use Rattle.dcx_fold.specs.Folds.{unknown_of, rows_of_member}
use Rattle.dcx_fold.proofs.fold_graphs.push_group_rows.Given as goal

abbrev pub invariant-loop-i : goal.invariant-loop-i
invariant-loop-i l =
    map placed_row l.rows.items ≡ map placed_row l.fn.rows.items
    ++ map (λ row. record { entry = l.entry; row = row }) (joined_below l.i (λ i. rows_of_member l.folding.fold (unknown_of l.folding.fold l.count l.entry i) (stride_entry l.stride i)))
