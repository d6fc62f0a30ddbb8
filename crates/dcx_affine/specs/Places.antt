-- Calls whose entries are entries of the argument: indices, reshapes, transposes, diagonals and promotion.
use Rattle.std.specs.Prelude.{ℕ, ◌+◌, ◌*◌, ◌/◌, ◌%◌, nat_eq, nat_le, Bool, true, false, ◌&&◌, ◌||◌, if◌then◌else◌, List, Option, Some, None, pos, slice_index}
use Rattle.dcx_math.specs.Rational.{ℚ, whole}
use Rattle.dcx_shape.specs.declared.shape.Sides.{Sides}
use Rattle.dcx_shape.specs.declared.shape.Sides.TheVariants.{Scalar, Vector, Matrix}
use Rattle.dcx_shape.specs.Sides.{rank_of, rows_of, cols_of, entries_of}
use Rattle.dcx_shape.specs.Places.{place_of}
use Rattle.dcx_atom.specs.declared.axis.Stride.{Stride}
use Rattle.dcx_atom.specs.Arrays.{entry_at, by_rows}
pub use Rattle.dcx_atom.specs.Arrays.{same_sides}
use Rattle.dcx_affine.specs.Strided.{StridedCall, plain, one_entry, no_entry}

-- the sides, where an array may have so many entries
abbrev pub limited : Sides → Option Sides
limited s = if nat_le 1 (entries_of s) && nat_le (entries_of s) 20000 then Some s else None

-- ---- the entries at given places
abbrev pub index_call : Sides → Sides → List ℕ → StridedCall
index_call from to places = record {
  result = λ s. if same_sides s from then Some to else None;
  value = λ s x k. x (slice_index places k);
  coefficient = plain;
  stride = λ s k. one_entry (slice_index places k);
}

-- ---- reshaping
-- the entry at a place in the order of the columns, or of the rows, which is that of arrays
abbrev pub entry_in_order : Bool → Sides → (ℕ → ℚ) → ℕ → ℚ
entry_in_order true s x p = entry_at s x (p % rows_of s) (p / rows_of s)
entry_in_order false s x p = x p

-- where that entry stands
abbrev pub place_in_order : Bool → Sides → ℕ → ℕ
place_in_order true s p = p % rows_of s * cols_of s + p / rows_of s
place_in_order false s p = p

-- each entry of the result is that of the argument with the same place in the order
abbrev pub reshape_call : Sides → Bool → StridedCall
reshape_call to by_columns = record {
  result = λ from. if nat_eq (entries_of from) (entries_of to) then Some to else None;
  value = λ from x. by_rows to (λ i j. entry_in_order by_columns from x (place_of by_columns to i j));
  coefficient = plain;
  stride = λ from k. one_entry (place_in_order by_columns from (place_of by_columns to (k / cols_of to) (k % cols_of to)));
}

-- ---- transposing
abbrev pub transposed_sides : Sides → Sides
transposed_sides Scalar = Scalar
transposed_sides (Vector n) = Vector n
transposed_sides (Matrix m n) = Matrix n m

-- entry (i, j) is entry (j, i) of the argument; a scalar and a vector stay as they are
abbrev pub transposed : Sides → (ℕ → ℚ) → ℕ → ℚ
transposed Scalar x k = x k
transposed (Vector n) x k = x k
transposed (Matrix m n) x k = by_rows (Matrix n m) (λ i j. entry_at (Matrix m n) x j i) k

abbrev pub transposed_place : Sides → ℕ → ℕ
transposed_place Scalar k = k
transposed_place (Vector n) k = k
transposed_place (Matrix m n) k = k % m * n + k / m

abbrev pub transpose_call : StridedCall
transpose_call = record { result = λ from. Some (transposed_sides from); value = transposed; coefficient = plain; stride = λ from k. one_entry (transposed_place from k) }

-- ---- diagonals
-- of a vector the square matrix, of a square matrix the vector
abbrev pub diagonal_sides : Sides → Option Sides
diagonal_sides Scalar = None
diagonal_sides (Vector n) = limited (Matrix n n)
diagonal_sides (Matrix m n) = if nat_eq m n then Some (Vector n) else None

-- a vector stands on the diagonal and 0 elsewhere; of a matrix entry k is entry (k, k)
abbrev pub diagonal : Sides → (ℕ → ℚ) → ℕ → ℚ
diagonal Scalar x k = x k
diagonal (Vector n) x k = by_rows (Matrix n n) (λ i j. if nat_eq i j then x i else whole (pos 0)) k
diagonal (Matrix m n) x k = entry_at (Matrix m n) x k k

abbrev pub diagonal_stride : Sides → ℕ → Stride
diagonal_stride Scalar k = one_entry k
diagonal_stride (Vector n) k = if nat_eq (k / n) (k % n) then one_entry (k / n) else no_entry
diagonal_stride (Matrix m n) k = one_entry (k * n + k)

abbrev pub diag_call : StridedCall
diag_call = record { result = diagonal_sides; value = diagonal; coefficient = plain; stride = diagonal_stride }

-- ---- promotion to a shape with which the argument broadcasts to that shape
-- a side is that of the result, or 1
abbrev pub stretches : ℕ → ℕ → Bool
stretches n m = nat_eq n m || nat_eq n 1

abbrev pub promotes : Sides → Sides → Bool
promotes from to = nat_le (rank_of from) (rank_of to) && (stretches (rows_of from) (rows_of to) && stretches (cols_of from) (cols_of to))

-- the row or column of the argument: a side of 1 stands for each
abbrev pub stretched : ℕ → ℕ → ℕ
stretched n i = if nat_eq n 1 then 0 else i

abbrev pub promoted_place : Sides → Sides → ℕ → ℕ
promoted_place from to k = stretched (rows_of from) (k / cols_of to) * cols_of from + stretched (cols_of from) (k % cols_of to)

abbrev pub promote_call : Sides → StridedCall
promote_call to = record {
  result = λ from. if promotes from to then Some to else None;
  value = λ from x. by_rows to (λ i j. entry_at from x (stretched (rows_of from) i) (stretched (cols_of from) j));
  coefficient = plain;
  stride = λ from k. one_entry (promoted_place from to k);
}
