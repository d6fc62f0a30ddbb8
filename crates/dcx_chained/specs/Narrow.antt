-- Sizes of rows, and rows of numbers so small that no pivot on them forms too great a number.
use Rattle.std.specs.Prelude.{ℕ, ◌<◌, ◌≤◌, ◌^◌, List, get_or, ℤ, ◌-ℤ◌, ◌*ℤ◌, unsigned_abs}
use Rattle.dcx_tab.specs.Rows.{Row, entry}
use Rattle.dcx_links.specs.Matrix.{Matrix, row_of}

-- a product of two such numbers, and a difference of two products, stay far below 2^127
abbrev pub IsNarrow : Row → Type 0
IsNarrow row = (j : ℕ) → unsigned_abs (entry row j) < 2 ^ 62

-- no number of the row is greater than the size
abbrev pub IsWithin : ℕ → Row → Type 0
IsWithin size row = (j : ℕ) → unsigned_abs (entry row j) ≤ size

-- the row is narrow by this size
pub record IsSized (size : ℕ) (row : Row) : Type 0 where
  pub narrow : size < 2 ^ 62
  pub within : (j : ℕ) → unsigned_abs (entry row j) ≤ size

abbrev pub size_at : List ℕ → ℕ → ℕ
size_at sizes i = get_or sizes i 0

-- each of the first n rows is narrow by its size
abbrev pub AreSized : ℕ → List ℕ → Matrix → Type 0
AreSized n sizes m = (i : ℕ) → i < n → IsSized (size_at sizes i) (row_of m i)

-- u times a number of size n less v times a number of size k is never greater
abbrev pub Bounds : ℤ → ℕ → ℤ → ℕ → ℕ → Type 0
Bounds u n v k bound = (x y : ℤ) → unsigned_abs x ≤ n → unsigned_abs y ≤ k → unsigned_abs (u *ℤ x -ℤ v *ℤ y) ≤ bound
