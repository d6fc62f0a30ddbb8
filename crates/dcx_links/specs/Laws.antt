-- What the links make of each line.
use Rattle.std.specs.Prelude.{ℕ}
use Rattle.dcx_links.specs.declared.store.Store.{Store}
use Rattle.dcx_links.specs.Lines.{IsLine}
use Rattle.dcx_links.specs.Cells.{head_at, InRow, InColumn, next_in_row_at, next_in_column_at, IsSound}

-- from its head, a row's chain has the row's cells and a column's chain the column's, each once and in rising order
abbrev pub LinesAreChains : Type 0
LinesAreChains = (s : Store) → IsSound s → (l : ℕ) →
    IsLine (InRow s.cells.items) (head_at s.row_heads.items) (next_in_row_at s.cells.items) l × IsLine (InColumn s.cells.items) (head_at s.column_heads.items) (next_in_column_at s.cells.items) l
