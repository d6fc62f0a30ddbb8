-- The rows of so many pieces are added.
use Rattle.std.proofs.Common.{◌≡◌, ◌++◌, map, take}
use Rattle.dcx_atom.specs.Graph.{placed_row}
use Rattle.dcx_elem.specs.Rows.{piece_rows}
use Rattle.dcx_elem.proofs.rows.push_rows.Given as goal

abbrev pub invariant-loop-piece : goal.invariant-loop-piece
invariant-loop-piece l =
    map placed_row l.rows.items ≡ map placed_row l.fn.rows.items ++ map (λ row. record { entry = l.entry; row = row }) (piece_rows l.bend (take l.piece-index l.pieces) l.entry)
