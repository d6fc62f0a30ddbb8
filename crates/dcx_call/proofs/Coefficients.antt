-- The coefficients of each linear call are fractions of 128 bits: 1, -1, or 1 / n.
use Rattle.std.proofs.Common.{◌≡◌, ℕ, zero, suc, ◌<◌, ◌≤◌, arith, pos, List, [], ◌∷◌, All, Some, sym, subst}
use Rattle.std.specs.Prelude.{option_and_then}
use Rattle.std.proofs.Math.Nat.{mul-le-mul_left}
use Rattle.std.proofs.lemmas.List.Elements.{All-nil, All-cons, All-head}
use Rattle.std.proofs.lemmas.Option.{same_Some}
use Rattle.dcx_math.specs.Rational.{whole, inverse}
use Rattle.dcx_math.proofs.Orders.{inverse-zero}
use Rattle.dcx_frac.specs.Fits.{IsRepresentable}
use Rattle.dcx_shape.specs.declared.shape.Sides.{Sides}
use Rattle.dcx_shape.specs.declared.shape.Sides.TheVariants.{Scalar, Vector, Matrix}
use Rattle.dcx_shape.specs.Sides.{entries_of}
use Rattle.dcx_shape.specs.Shape.{sides_of}
use Rattle.dcx_atom.specs.declared.axis.Axis.{Axis}
use Rattle.dcx_atom.specs.declared.axis.Axis.TheVariants as axes
use Rattle.dcx_atom.specs.Arrays.{sides_at}
use Rattle.dcx_atom.specs.Axis.{folded, folded_count}
use Rattle.dcx_atom.specs.Linear.{LinearTerm}
use Rattle.dcx_atom.proofs.LinearSums.{All-list_below}
use Rattle.dcx_affine.specs.Folds.{sum_call, mean_call, running_call, trace_call}
use Rattle.dcx_affine.specs.Places.{index_call, reshape_call, transpose_call, diag_call, promote_call}
use Rattle.dcx_atom.specs.Bounding.{only}
use Rattle.dcx_affine.specs.Strided.{StridedCall, strided_meaning}
use Rattle.dcx_affine.proofs.Reciprocals.{reciprocal_fits, reciprocal_is}
use Rattle.dcx_call.specs.declared.linears.LinearCall.{LinearCall}
use Rattle.dcx_call.specs.declared.linears.LinearCall.TheVariants as calls
use Rattle.dcx_call.specs.Linears.{linear_meaning}
use Rattle.dcx_atom.specs.Fractions.{HaveFewEntries}
use Rattle.dcx_atom.proofs.Fractions.{zero_fits, one_fits, minus_one_fits}

abbrev pub FitsIn : LinearTerm → Type 0
FitsIn t = IsRepresentable t.coefficient

-- ---- the numbers 1 / n
inverse_fits : (n : ℕ) → n ≤ 20000 → IsRepresentable (inverse (whole (pos n)))
inverse_fits zero few = subst IsRepresentable (sym inverse-zero) zero_fits
inverse_fits (suc n) few = subst IsRepresentable (reciprocal_is (suc n)) (reciprocal_fits (suc n) (omega arith) (omega arith))

-- ---- lists of terms
one : (t : LinearTerm) → FitsIn t → All FitsIn (t ∷ [])
one t h = All-cons FitsIn t [] h (All-nil FitsIn)

both : (t u : LinearTerm) → FitsIn t → FitsIn u → All FitsIn (t ∷ u ∷ [])
both t u h k = All-cons FitsIn t (u ∷ []) h (one u k)

strided_fit : (s : StridedCall) (args : List Sides) (j : ℕ) → IsRepresentable (s.coefficient (sides_at args 0)) → All FitsIn ((strided_meaning s).terms args j)
strided_fit s args j h = All-list_below FitsIn (s.stride (sides_at args 0) j).count _ (λ i _. h)

at_least_one : (j n : ℕ) → j < n → 1 ≤ n
at_least_one j n b = omega arith

-- of a mean: no more are summed than there are entries
count_few : (axis : Axis) (s to : Sides) (j : ℕ) → folded axis s ≡ Some to → j < entries_of to → entries_of s ≤ 20000 → folded_count axis s ≤ 20000
count_few axes.All s to j e b few = few
count_few axes.Zero Scalar to j e b few = few
count_few axes.Zero (Vector n) to j e b few = few
count_few axes.Zero (Matrix m n) to j e b few =
    let some : j < n = subst (λ (t : Sides). j < entries_of t) (sym (same_Some (Vector n) to e)) b in
    omega (arith, few, mul-le-mul_left m (at_least_one j n some))
count_few axes.One Scalar to j e b few = few
count_few axes.One (Vector n) to j e b few = few
count_few axes.One (Matrix m n) to j e b few =
    let some : j < m = subst (λ (t : Sides). j < entries_of t) (sym (same_Some (Vector m) to e)) b in
    omega (arith, few, mul-le-mul_left n (at_least_one j m some))

mean_fits : (axis : Axis) (args : List Sides) (to : Sides) (j : ℕ) → option_and_then (folded axis) (only args) ≡ Some to → j < entries_of to → HaveFewEntries args →
    IsRepresentable (inverse (whole (pos (folded_count axis (sides_at args 0)))))
mean_fits axis [] to j e b few = absurd (cc)
mean_fits axis (s ∷ []) to j e b few = inverse_fits (folded_count axis s) (count_few axis s to j e b (All-head (λ (t : Sides). entries_of t ≤ 20000) s [] few))
mean_fits axis (s ∷ r ∷ rest) to j e b few = absurd (cc)

-- ---- all linear calls
pub coefficients_fit : (l : LinearCall) (args : List Sides) (to : Sides) (j : ℕ) → (linear_meaning l).shape args ≡ Some to → j < entries_of to → HaveFewEntries args →
    All FitsIn ((linear_meaning l).terms args j)
coefficients_fit (calls.Plus x) args to j e b few = both _ _ one_fits one_fits
coefficients_fit (calls.Minus x) args to j e b few = one _ minus_one_fits
coefficients_fit (calls.Sum x) args to j e b few = strided_fit (sum_call x.axis) args j one_fits
coefficients_fit (calls.Mean x) args to j e b few = strided_fit (mean_call x.axis) args j (mean_fits x.axis args to j e b few)
coefficients_fit (calls.CumSum x) args to j e b few = strided_fit (running_call x.axis) args j one_fits
coefficients_fit (calls.Diff x) args to j e b few = both _ _ minus_one_fits one_fits
coefficients_fit (calls.Trace x) args to j e b few = strided_fit trace_call args j one_fits
coefficients_fit (calls.Diag x) args to j e b few = strided_fit diag_call args j one_fits
coefficients_fit (calls.Index x) args to j e b few = strided_fit (index_call (sides_of x.from) (sides_of x.to) x.places) args j one_fits
coefficients_fit (calls.Reshape x) args to j e b few = strided_fit (reshape_call (sides_of x.to) x.by_columns) args j one_fits
coefficients_fit (calls.Transpose x) args to j e b few = strided_fit transpose_call args j one_fits
coefficients_fit (calls.HStack x) args to j e b few = one _ one_fits
coefficients_fit (calls.VStack x) args to j e b few = one _ one_fits
coefficients_fit (calls.Promote x) args to j e b few = strided_fit (promote_call (sides_of x.to)) args j one_fits
