-- How the cells of a matrix lie in memory.
use Rattle.std.specs.Prelude.{◌≡◌, ◌≢◌, ℕ, zero, suc, ◌+◌, ◌<◌, ◌≤◌, ◌&&◌, nat_eq, cond, Bool, true, false, List, [], ◌∷◌, length, Option, Some, None, ℤ, pos, negsuc, slice_index_or, slice_set}
use Rattle.dcx_links.specs.declared.store.Cell.{Cell}
use Rattle.dcx_links.specs.declared.store.Store.{Store}
use Rattle.dcx_links.specs.Lines.{none, Has, AreLines}

-- a cell without a number
abbrev pub blank : Cell
blank = record { value = pos 0; row = 0; column = 0; next_in_row = 0; next_in_column = 0 }

-- the cell at a place; past the end one without a number
abbrev pub cell_at : List Cell → ℕ → Cell
cell_at cells i = slice_index_or cells i blank

-- the first link of a line
abbrev pub head_at : List ℕ → ℕ → ℕ
head_at heads l = slice_index_or heads l 4294967295

-- cell i holds a number, in row r and column c
pub record IsAt (cells : List Cell) (i r c : ℕ) : Type 0 where
  pub number : (cell_at cells i).value ≢ pos 0
  pub in_row : (cell_at cells i).row ≡ r
  pub in_column : (cell_at cells i).column ≡ c

abbrev pub InRow : List Cell → ℕ → ℕ → ℕ → Type 0
InRow cells i l q = IsAt cells i l q

abbrev pub InColumn : List Cell → ℕ → ℕ → ℕ → Type 0
InColumn cells i l q = IsAt cells i q l

abbrev pub next_in_row_at : List Cell → ℕ → ℕ
next_in_row_at cells i = (cell_at cells i).next_in_row

abbrev pub next_in_column_at : List Cell → ℕ → ℕ
next_in_column_at cells i = (cell_at cells i).next_in_column

-- the position that follows a link's
abbrev pub bound_in_row : List Cell → Option ℕ → ℕ
bound_in_row cells None = 0
bound_in_row cells (Some i) = (cell_at cells i).column + 1

abbrev pub bound_in_column : List Cell → Option ℕ → ℕ
bound_in_column cells None = 0
bound_in_column cells (Some i) = (cell_at cells i).row + 1

abbrev pub is_zero : ℤ → Bool
is_zero (pos zero) = true
is_zero (pos (suc n)) = false
is_zero (negsuc n) = false

-- the number at row r and column c
abbrev pub cell_number : List Cell → ℕ → ℕ → ℤ
cell_number [] r c = pos 0
cell_number (x ∷ xs) r c = cond (is_zero x.value) (cell_number xs r c) (cond (nat_eq x.row r && nat_eq x.column c) x.value (cell_number xs r c))

-- a link of a row, or of a column, leads to a cell
abbrev pub with_next_in_row : List Cell → Option ℕ → ℕ → List Cell
with_next_in_row cells None to = cells
with_next_in_row cells (Some i) to = slice_set cells i (record (cell_at cells i) { next_in_row = to })

abbrev pub with_next_in_column : List Cell → Option ℕ → ℕ → List Cell
with_next_in_column cells None to = cells
with_next_in_column cells (Some i) to = slice_set cells i (record (cell_at cells i) { next_in_column = to })

abbrev pub with_head : List ℕ → ℕ → Option ℕ → ℕ → List ℕ
with_head heads l None to = slice_set heads l to
with_head heads l (Some i) to = heads

-- these cells, each once and without a number, follow each other
abbrev pub AreFree : List Cell → ℕ → List ℕ → Type 0
AreFree cells head [] = head ≡ none
AreFree cells head (k ∷ ks) = (head ≡ k) × (k < length cells) × ((cell_at cells k).value ≡ pos 0) × (¬ Has ks k) × AreFree cells (next_in_row_at cells k) ks

-- what the cells keep
pub record IsStore (cells : List Cell) (row_heads column_heads : List ℕ) (free : ℕ) : Type 0 where
  pub rows_linked : AreLines (InRow cells) (head_at row_heads) (next_in_row_at cells)
  pub columns_linked : AreLines (InColumn cells) (head_at column_heads) (next_in_column_at cells)
  pub row_within : (i r c : ℕ) → IsAt cells i r c → r < length row_heads
  pub column_within : (i r c : ℕ) → IsAt cells i r c → c < length column_heads
  pub one_cell : (i j r c : ℕ) → IsAt cells i r c → IsAt cells j r c → i ≡ j
  pub few : length cells ≤ none
  pub order : List ℕ
  pub freed : AreFree cells free order
  pub rest : (i : ℕ) → i < length cells → (cell_at cells i).value ≡ pos 0 → Has order i

abbrev pub IsSound : Store → Type 0
IsSound s = IsStore s.cells.items s.row_heads.items s.column_heads.items s.free

abbrev pub number_in : Store → ℕ → ℕ → ℤ
number_in s r c = cell_number s.cells.items r c
