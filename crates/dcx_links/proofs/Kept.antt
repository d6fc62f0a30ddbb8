-- A link that leads on from a cell that keeps its place.
use Rattle.std.proofs.Common.{◌≡◌, ℕ, ◌+◌, Option, Some, None, IfSome, refl, ap, ◌∙◌, arith}
use Rattle.dcx_links.specs.declared.store.Cell.{Cell}
use Rattle.std.specs.Prelude.{List}
use Rattle.dcx_links.specs.Lines.{IsFrom}
use Rattle.dcx_links.specs.Cells.{InRow, IsAt, bound_in_row}

-- a cell at a place of a row leads on from behind it
pub from_cell : (cells : List Cell) (i row column : ℕ) → IsAt cells i row column → IsFrom (InRow cells) row (Some i) (bound_in_row cells (Some i))
from_cell cells i row column at = (column, at, ap (λ k. k + 1) at.in_column)

-- the same link among other cells
pub from_kept : (cells now : List Cell) (row : ℕ) (s : Option ℕ) → IsFrom (InRow cells) row s (bound_in_row cells s)
    → IfSome s (λ i. (q : ℕ) → IsAt cells i row q → q + 1 ≡ bound_in_row cells s → IsAt now i row q)
    → IsFrom (InRow now) row s (bound_in_row now s) × (bound_in_row now s ≡ bound_in_row cells s)
from_kept cells now row None from kept = (refl, refl)
from_kept cells now row (Some i) (q, at, e) kept =
    let to = kept q at (let c = e in omega (arith, c)) in
    (from_cell now i row q to, ap (λ k. k + 1) to.in_column ∙ (let c = e in omega (arith, c)))
