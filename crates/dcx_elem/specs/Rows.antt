-- The rows that put one unknown beyond the same entry of some arguments.
use Rattle.std.specs.Prelude.{ℕ, List, map}
use Rattle.dcx_frac.specs.Frac.{value}
use Rattle.dcx_atom.specs.declared.flags.Bend.{Bend}
use Rattle.dcx_atom.specs.Rows.{RowTerm, Row}
use Rattle.dcx_atom.specs.Bounding.{argument_term, bound_row}
use Rattle.dcx_elem.specs.declared.rows.Piece.{Piece}

-- entry j of a piece
abbrev pub piece_term : ℕ → Piece → RowTerm
piece_term j x = argument_term x.argument j (value x.coefficient)

-- the rows that put unknown j beyond entry j of each piece
abbrev pub piece_rows : Bend → List Piece → ℕ → List Row
piece_rows bend pieces j = map (λ x. bound_row bend j (piece_term j x)) pieces
