-- Sums along a side, means, running sums and traces.
use Rattle.std.specs.Prelude.{ℕ, suc, ◌+◌, ◌*◌, ◌/◌, ◌%◌, nat_eq, if◌then◌else◌, Option, Some, None, pos}
use Rattle.dcx_math.specs.Rational.{ℚ, whole, ◌/ℚ◌, inverse}
use Rattle.dcx_math.specs.Sums.{rat_sum_below}
use Rattle.dcx_shape.specs.declared.shape.Sides.{Sides}
use Rattle.dcx_shape.specs.declared.shape.Sides.TheVariants.{Scalar, Vector, Matrix}
use Rattle.dcx_shape.specs.Sides.{cols_of, entries_of}
use Rattle.dcx_atom.specs.declared.axis.Axis.{Axis}
use Rattle.dcx_atom.specs.declared.axis.Axis.TheVariants.{All, Zero, One}
use Rattle.dcx_atom.specs.declared.axis.Stride.{Stride}
use Rattle.dcx_atom.specs.Arrays.{entry_at, by_rows}
use Rattle.dcx_atom.specs.Axis.{folded, folded_stride, folded_count}
use Rattle.dcx_affine.specs.Strided.{StridedCall, plain}

-- ---- sums along a side
-- the sum of all entries, of those in column k, or of those in row k
abbrev pub folded_sum : Axis → Sides → (ℕ → ℚ) → ℕ → ℚ
folded_sum Zero (Matrix m n) x k = rat_sum_below m (λ i. entry_at (Matrix m n) x i k)
folded_sum One (Matrix m n) x k = rat_sum_below n (λ j. entry_at (Matrix m n) x k j)
folded_sum All s x k = rat_sum_below (entries_of s) x
folded_sum Zero s x k = rat_sum_below (entries_of s) x
folded_sum One s x k = rat_sum_below (entries_of s) x

abbrev pub sum_call : Axis → StridedCall
sum_call axis = record { result = folded axis; value = folded_sum axis; coefficient = plain; stride = folded_stride axis }

-- the sum divided by how many are summed
abbrev pub mean_call : Axis → StridedCall
mean_call axis = record {
  result = folded axis;
  value = λ from x k. folded_sum axis from x k /ℚ whole (pos (folded_count axis from));
  coefficient = λ from. inverse (whole (pos (folded_count axis from)));
  stride = folded_stride axis;
}

-- ---- running sums
-- a vector, or a matrix along one of its sides
abbrev pub running_sides : Axis → Sides → Option Sides
running_sides All (Vector n) = Some (Vector n)
running_sides Zero (Vector n) = Some (Vector n)
running_sides Zero (Matrix m n) = Some (Matrix m n)
running_sides One (Matrix m n) = Some (Matrix m n)
running_sides All Scalar = None
running_sides All (Matrix m n) = None
running_sides Zero Scalar = None
running_sides One Scalar = None
running_sides One (Vector n) = None

-- the sum of the entries up to k; of a matrix, of those in its column from the top, or in its row from the left
abbrev pub running_sum : Axis → Sides → (ℕ → ℚ) → ℕ → ℚ
running_sum Zero (Matrix m n) x k = by_rows (Matrix m n) (λ i j. rat_sum_below (suc i) (λ r. entry_at (Matrix m n) x r j)) k
running_sum One (Matrix m n) x k = by_rows (Matrix m n) (λ i j. rat_sum_below (suc j) (λ c. entry_at (Matrix m n) x i c)) k
running_sum All s x k = rat_sum_below (suc k) x
running_sum Zero s x k = rat_sum_below (suc k) x
running_sum One s x k = rat_sum_below (suc k) x

abbrev pub running_stride : Axis → Sides → ℕ → Stride
running_stride Zero (Matrix m n) k = record { first = k % n; step = n; count = k / n + 1 }
running_stride One (Matrix m n) k = record { first = k / n * n; step = 1; count = k % n + 1 }
running_stride All s k = record { first = 0; step = 1; count = k + 1 }
running_stride Zero s k = record { first = 0; step = 1; count = k + 1 }
running_stride One s k = record { first = 0; step = 1; count = k + 1 }

abbrev pub running_call : Axis → StridedCall
running_call axis = record { result = running_sides axis; value = running_sum axis; coefficient = plain; stride = running_stride axis }

-- ---- traces
-- the sum of the entries (0, 0), (1, 1), .. of a square matrix
abbrev pub trace_sides : Sides → Option Sides
trace_sides Scalar = None
trace_sides (Vector n) = None
trace_sides (Matrix m n) = if nat_eq m n then Some Scalar else None

abbrev pub trace_call : StridedCall
trace_call = record {
  result = trace_sides;
  value = λ from x k. rat_sum_below (cols_of from) (λ i. entry_at from x i i);
  coefficient = plain;
  stride = λ from k. record { first = 0; step = cols_of from + 1; count = cols_of from };
}
