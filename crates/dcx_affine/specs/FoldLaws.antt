-- Sums along a side, means, running sums and traces are sums of strides.
use Rattle.std.specs.Prelude.{◌≡◌, ℕ, zero, suc, ◌+◌, ◌*◌, ◌/◌, ◌%◌, pos}
use Rattle.std.proofs.Common.{refl, sym, ap, ◌∙◌, arith}
use Rattle.dcx_math.specs.Rational.{ℚ, whole, ◌*ℚ◌, inverse}
use Rattle.dcx_math.specs.Sums.{IsNonnegative, rat_sum_below}
use Rattle.dcx_math.proofs.Ring.{/ℚ-is}
use Rattle.dcx_math.proofs.Orders.{*ℚ_comm, ≤ℚ-from_≡, <ℚ-≤ℚ}
use Rattle.dcx_math.proofs.FieldLaws.{inverse-zero}
use Rattle.dcx_math.proofs.Products.{inverse-positive, whole-suc_positive}
use Rattle.dcx_math.proofs.Sums.{rat_sum_below-same}
use Rattle.dcx_shape.specs.declared.shape.Sides.{Sides}
use Rattle.dcx_shape.specs.declared.shape.Sides.TheVariants.{Scalar, Vector, Matrix}
use Rattle.dcx_shape.specs.Sides.{cols_of, entries_of}
use Rattle.dcx_atom.specs.declared.axis.Axis.{Axis}
use Rattle.dcx_atom.specs.declared.axis.Axis.TheVariants.{All, Zero, One}
use Rattle.dcx_atom.specs.declared.axis.Stride.{Stride}
use Rattle.dcx_atom.specs.Axis.{folded_count, folded_stride, whole_stride, stride_entry}
use Rattle.dcx_affine.specs.Strided.{stride_sum, IsStrided}
use Rattle.dcx_affine.specs.StridedLaws.{once, one_nonneg}
use Rattle.dcx_affine.specs.Folds.{folded_sum, running_sum, running_stride, sum_call, mean_call, running_call, trace_call}

-- a sum is that of a stride whose entries are the same in order
pub as_stride : (s : Stride) (n : ℕ) (x : ℕ → ℚ) (place : ℕ → ℕ) → n ≡ s.count → ((i : ℕ) → place i ≡ stride_entry s i) → rat_sum_below n (λ i. x (place i)) ≡ stride_sum s x
as_stride s n x place count h =
    ap (λ m. rat_sum_below m (λ i. x (place i))) count ∙ rat_sum_below-same s.count (λ i. x (place i)) (λ i. x (stride_entry s i)) (λ i b. ap x (h i))

whole_is : (s : Sides) (x : ℕ → ℚ) → rat_sum_below (entries_of s) x ≡ stride_sum (whole_stride s) x
whole_is s x = as_stride (whole_stride s) (entries_of s) x (λ i. i) refl (λ i. omega arith)

folded_is : (axis : Axis) (s : Sides) (x : ℕ → ℚ) (k : ℕ) → folded_sum axis s x k ≡ stride_sum (folded_stride axis s k) x
folded_is All Scalar x k = whole_is Scalar x
folded_is All (Vector n) x k = whole_is (Vector n) x
folded_is All (Matrix m n) x k = whole_is (Matrix m n) x
folded_is Zero Scalar x k = whole_is Scalar x
folded_is Zero (Vector n) x k = whole_is (Vector n) x
folded_is Zero (Matrix m n) x k = as_stride (record { first = k; step = n; count = m }) m x (λ i. i * n + k) refl (λ i. omega arith)
folded_is One Scalar x k = whole_is Scalar x
folded_is One (Vector n) x k = whole_is (Vector n) x
folded_is One (Matrix m n) x k = as_stride (record { first = k * n; step = 1; count = n }) n x (λ j. k * n + j) refl (λ j. omega arith)

pub sum_is : (axis : Axis) → IsStrided (sum_call axis)
sum_is axis = record {
  nonneg = λ from to e. one_nonneg;
  sums = λ from to e x k b. folded_is axis from x k ∙ once (stride_sum (folded_stride axis from k) x);
}

-- 1 / n is at least 0
inverse_nonneg : (n : ℕ) → IsNonnegative (inverse (whole (pos n)))
inverse_nonneg zero = ≤ℚ-from_≡ (sym inverse-zero)
inverse_nonneg (suc n) = <ℚ-≤ℚ (inverse-positive (whole-suc_positive n))

pub mean_is : (axis : Axis) → IsStrided (mean_call axis)
mean_is axis = record {
  nonneg = λ from to e. inverse_nonneg (folded_count axis from);
  sums = λ from to e x k b. (
      let n = whole (pos (folded_count axis from)) in
      /ℚ-is (folded_sum axis from x k) n ∙ *ℚ_comm (folded_sum axis from x k) (inverse n) ∙ ap (λ y. inverse n *ℚ y) (folded_is axis from x k));
}

running_sum_is : (axis : Axis) (s : Sides) (x : ℕ → ℚ) (k : ℕ) → running_sum axis s x k ≡ stride_sum (running_stride axis s k) x
running_sum_is All Scalar x k = as_stride (record { first = 0; step = 1; count = k + 1 }) (suc k) x (λ i. i) (omega arith) (λ i. omega arith)
running_sum_is All (Vector n) x k = as_stride (record { first = 0; step = 1; count = k + 1 }) (suc k) x (λ i. i) (omega arith) (λ i. omega arith)
running_sum_is All (Matrix m n) x k = as_stride (record { first = 0; step = 1; count = k + 1 }) (suc k) x (λ i. i) (omega arith) (λ i. omega arith)
running_sum_is Zero Scalar x k = as_stride (record { first = 0; step = 1; count = k + 1 }) (suc k) x (λ i. i) (omega arith) (λ i. omega arith)
running_sum_is Zero (Vector n) x k = as_stride (record { first = 0; step = 1; count = k + 1 }) (suc k) x (λ i. i) (omega arith) (λ i. omega arith)
running_sum_is Zero (Matrix m n) x k = as_stride (record { first = k % n; step = n; count = k / n + 1 }) (suc (k / n)) x (λ r. r * n + k % n) (omega arith) (λ r. omega arith)
running_sum_is One Scalar x k = as_stride (record { first = 0; step = 1; count = k + 1 }) (suc k) x (λ i. i) (omega arith) (λ i. omega arith)
running_sum_is One (Vector n) x k = as_stride (record { first = 0; step = 1; count = k + 1 }) (suc k) x (λ i. i) (omega arith) (λ i. omega arith)
running_sum_is One (Matrix m n) x k = as_stride (record { first = k / n * n; step = 1; count = k % n + 1 }) (suc (k % n)) x (λ c. k / n * n + c) (omega arith) (λ c. omega arith)

pub running_is : (axis : Axis) → IsStrided (running_call axis)
running_is axis = record {
  nonneg = λ from to e. one_nonneg;
  sums = λ from to e x k b. running_sum_is axis from x k ∙ once (stride_sum (running_stride axis from k) x);
}

pub trace_is : IsStrided trace_call
trace_is = record {
  nonneg = λ from to e. one_nonneg;
  sums = λ from to e x k b. (
      let s : Stride = record { first = 0; step = cols_of from + 1; count = cols_of from } in
      as_stride s (cols_of from) x (λ i. i * cols_of from + i) refl (λ i. omega arith) ∙ once (stride_sum s x));
}
