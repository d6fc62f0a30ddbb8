-- The matrix that the cells hold.
use Rattle.std.specs.Prelude.{◌≡◌, ℕ, List, length, ℤ}
use Rattle.dcx_links.specs.declared.store.Store.{Store}
use Rattle.dcx_links.specs.Cells.{number_in, IsSound}
use Rattle.dcx_links.specs.Matrix.{Matrix, listed}

abbrev pub row_in : Store → ℕ → List ℤ
row_in s r = listed (length s.column_heads.items) (λ c. number_in s r c)

abbrev pub column_in : Store → ℕ → List ℤ
column_in s c = listed (length s.row_heads.items) (λ r. number_in s r c)

abbrev pub matrix_of : Store → Matrix
matrix_of s = record { height = length s.row_heads.items; width = length s.column_heads.items; numbers = listed (length s.row_heads.items) (λ r. row_in s r) }

-- the cells are linked, and there is a cell to begin a search from, good or not, for each line
pub record AreLinked (s : Store) (near_rows near_columns : List ℕ) : Type 0 where
  pub sound : IsSound s
  pub rows : length near_rows ≡ length s.row_heads.items
  pub columns : length near_columns ≡ length s.column_heads.items
