-- Calls whose entries are entries of the argument are sums of strides of one entry or none.
use Rattle.std.specs.Prelude.{◌≡◌, ℕ, ◌+◌, ◌*◌, ◌/◌, ◌%◌, nat_eq, Bool, true, false, if◌then◌else◌, List, pos, slice_index}
use Rattle.std.proofs.Common.{refl, ◌∙◌}
use Rattle.dcx_math.specs.Rational.{ℚ, whole, ◌*ℚ◌}
use Rattle.dcx_shape.specs.declared.shape.Sides.{Sides}
use Rattle.dcx_shape.specs.declared.shape.Sides.TheVariants.{Scalar, Vector, Matrix}
use Rattle.dcx_shape.specs.Sides.{cols_of}
use Rattle.dcx_shape.specs.Places.{place_of}
use Rattle.dcx_affine.specs.Strided.{stride_sum, one_entry, no_entry, IsStrided}
use Rattle.dcx_affine.specs.StridedLaws.{once, one_nonneg, one_entry_is}
use Rattle.dcx_affine.specs.Places.{
  index_call,
  entry_in_order,
  place_in_order,
  reshape_call,
  transposed,
  transposed_place,
  transpose_call,
  diagonal,
  diagonal_stride,
  diag_call,
  promoted_place,
  promote_call,
}

pub index_is : (from to : Sides) (places : List ℕ) → IsStrided (index_call from to places)
index_is from to places = record { nonneg = λ s r e. one_nonneg; sums = λ s r e x k b. one_entry_is (slice_index places k) x }

in_order_is : (by_columns : Bool) (s : Sides) (x : ℕ → ℚ) (p : ℕ) → entry_in_order by_columns s x p ≡ x (place_in_order by_columns s p)
in_order_is true s x p = refl
in_order_is false s x p = refl

pub reshape_is : (to : Sides) (by_columns : Bool) → IsStrided (reshape_call to by_columns)
reshape_is to by_columns = record {
  nonneg = λ s r e. one_nonneg;
  sums = λ from r e x k b. (
      let p = place_of by_columns to (k / cols_of to) (k % cols_of to) in
      in_order_is by_columns from x p ∙ one_entry_is (place_in_order by_columns from p) x);
}

transposed_is : (s : Sides) (x : ℕ → ℚ) (k : ℕ) → transposed s x k ≡ x (transposed_place s k)
transposed_is Scalar x k = refl
transposed_is (Vector n) x k = refl
transposed_is (Matrix m n) x k = refl

pub transpose_is : IsStrided transpose_call
transpose_is = record { nonneg = λ s r e. one_nonneg; sums = λ from r e x k b. transposed_is from x k ∙ one_entry_is (transposed_place from k) x }

one_or_none : (b : Bool) (p : ℕ) (x : ℕ → ℚ) → (if b then x p else whole (pos 0)) ≡ whole (pos 1) *ℚ stride_sum (if b then one_entry p else no_entry) x
one_or_none true p x = one_entry_is p x
one_or_none false p x = once (whole (pos 0))

diagonal_is : (s : Sides) (x : ℕ → ℚ) (k : ℕ) → diagonal s x k ≡ whole (pos 1) *ℚ stride_sum (diagonal_stride s k) x
diagonal_is Scalar x k = one_entry_is k x
diagonal_is (Vector n) x k = one_or_none (nat_eq (k / n) (k % n)) (k / n) x
diagonal_is (Matrix m n) x k = one_entry_is (k * n + k) x

pub diag_is : IsStrided diag_call
diag_is = record { nonneg = λ s r e. one_nonneg; sums = λ from r e x k b. diagonal_is from x k }

pub promote_is : (to : Sides) → IsStrided (promote_call to)
promote_is to = record { nonneg = λ s r e. one_nonneg; sums = λ from r e x k b. one_entry_is (promoted_place from to k) x }
