-- The places of an array's entries, counted from 0 along the rows or down the columns.
use Rattle.std.specs.Prelude.{◌≡◌, ℕ, ◌+◌, ◌*◌, ◌<◌, Bool, List, if◌then◌else◌}
use Rattle.std.specs.List.{range_with_len}
use Rattle.dcx_shape.specs.declared.shape.Sides.{Sides}
use Rattle.dcx_shape.specs.Sides.{rows_of, cols_of}

-- there is an entry in row i and column j
pub record HasEntry (sides : Sides) (i j : ℕ) : Type 0 where
  pub row : i < rows_of sides
  pub column : j < cols_of sides

-- the place of the entry in row i and column j, counted along the rows: row-major order
abbrev pub row_place : Sides → ℕ → ℕ → ℕ
row_place sides i j = i * cols_of sides + j

-- the same, counted down the columns: column-major order
abbrev pub column_place : Sides → ℕ → ℕ → ℕ
column_place sides i j = j * rows_of sides + i

-- the place in the one order or in the other
abbrev pub place_of : Bool → Sides → ℕ → ℕ → ℕ
place_of by_columns sides i j = if by_columns then column_place sides i j else row_place sides i j

-- the places of n entries, in order
abbrev pub places_below : ℕ → List ℕ
places_below n = range_with_len 0 n

-- the entry that has the one place along the rows has the other down the columns
pub record TurnsPlace (sides : Sides) (along down : ℕ) : Type 0 where
  pub row : ℕ
  pub column : ℕ
  pub entry : HasEntry sides row column
  pub is_along : along ≡ row_place sides row column
  pub is_down : down ≡ column_place sides row column
