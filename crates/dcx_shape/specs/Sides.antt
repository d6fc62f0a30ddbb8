-- The sides of an array, as NumPy has them: none of a scalar, one of a vector, rows and columns of a matrix.
use Rattle.std.specs.Prelude.{ℕ, ◌*◌, ◌<◌, ◌≤◌}
use Rattle.dcx_shape.specs.declared.shape.Sides.{Sides}
use Rattle.dcx_shape.specs.declared.shape.Sides.TheVariants.{Scalar, Vector, Matrix}

-- how many sides there are
abbrev pub rank_of : Sides → ℕ
rank_of Scalar = 0
rank_of (Vector n) = 1
rank_of (Matrix m n) = 2

-- the number of rows; a scalar and a vector are one row
abbrev pub rows_of : Sides → ℕ
rows_of Scalar = 1
rows_of (Vector n) = 1
rows_of (Matrix m n) = m

-- the number of columns
abbrev pub cols_of : Sides → ℕ
cols_of Scalar = 1
cols_of (Vector n) = n
cols_of (Matrix m n) = n

-- the number of entries
abbrev pub entries_of : Sides → ℕ
entries_of Scalar = 1
entries_of (Vector n) = n
entries_of (Matrix m n) = m * n

-- there are 1 to 20,000 entries
pub record HasFewEntries (sides : Sides) : Type 0 where
  pub some : 0 < entries_of sides
  pub most : entries_of sides ≤ 20000
