-- What each linear call is, and that it keeps all laws: one line for each call.
use Rattle.dcx_shape.specs.Shape.{sides_of}
use Rattle.dcx_atom.specs.Linear.{LinearMeaning}
use Rattle.dcx_atom.specs.Lawful.{IsLawfulLinear}
use Rattle.dcx_affine.specs.Strided.{StridedCall, IsStrided, strided_meaning}
use Rattle.dcx_affine.specs.StridedLaws.{strided_linear, strided_sign, strided_trend}
use Rattle.dcx_affine.specs.Added.{plus_meaning, minus_meaning, diff_meaning}
use Rattle.dcx_affine.specs.AddedLaws.{plus_linear, plus_sign, plus_trend, minus_linear, minus_sign, minus_trend, diff_linear, diff_sign, diff_trend}
use Rattle.dcx_affine.specs.Folds.{sum_call, mean_call, running_call, trace_call}
use Rattle.dcx_affine.specs.FoldLaws.{sum_is, mean_is, running_is, trace_is}
use Rattle.dcx_affine.specs.Places.{index_call, reshape_call, transpose_call, diag_call, promote_call}
use Rattle.dcx_affine.specs.PlaceLaws.{index_is, reshape_is, transpose_is, diag_is, promote_is}
use Rattle.dcx_affine.specs.Joined.{hstack_meaning, vstack_meaning}
use Rattle.dcx_affine.specs.JoinedLaws.{hstack_linear, hstack_sign, hstack_trend, vstack_linear, vstack_sign, vstack_trend}
use Rattle.dcx_call.specs.declared.linears.LinearCall.{LinearCall}
use Rattle.dcx_call.specs.declared.linears.LinearCall.TheVariants.{Plus, Minus, Sum, Mean, CumSum, Diff, Trace, Diag, Index, Reshape, Transpose, HStack, VStack, Promote}

strided_lawful : (s : StridedCall) → IsStrided s → IsLawfulLinear (strided_meaning s)
strided_lawful s is = record { linearity = strided_linear s is; sign = strided_sign s is; monotonicity = strided_trend s is }

-- all that the call is
abbrev pub linear_meaning : LinearCall → LinearMeaning
linear_meaning (Plus x) = plus_meaning
linear_meaning (Minus x) = minus_meaning
linear_meaning (Sum x) = strided_meaning (sum_call x.axis)
linear_meaning (Mean x) = strided_meaning (mean_call x.axis)
linear_meaning (CumSum x) = strided_meaning (running_call x.axis)
linear_meaning (Diff x) = diff_meaning
linear_meaning (Trace x) = strided_meaning trace_call
linear_meaning (Diag x) = strided_meaning diag_call
linear_meaning (Index x) = strided_meaning (index_call (sides_of x.from) (sides_of x.to) x.places)
linear_meaning (Reshape x) = strided_meaning (reshape_call (sides_of x.to) x.by_columns)
linear_meaning (Transpose x) = strided_meaning transpose_call
linear_meaning (HStack x) = hstack_meaning
linear_meaning (VStack x) = vstack_meaning
linear_meaning (Promote x) = strided_meaning (promote_call (sides_of x.to))

-- it keeps the laws
pub linear_lawful : (call : LinearCall) → IsLawfulLinear (linear_meaning call)
linear_lawful (Plus x) = record { linearity = plus_linear; sign = plus_sign; monotonicity = plus_trend }
linear_lawful (Minus x) = record { linearity = minus_linear; sign = minus_sign; monotonicity = minus_trend }
linear_lawful (Sum x) = strided_lawful (sum_call x.axis) (sum_is x.axis)
linear_lawful (Mean x) = strided_lawful (mean_call x.axis) (mean_is x.axis)
linear_lawful (CumSum x) = strided_lawful (running_call x.axis) (running_is x.axis)
linear_lawful (Diff x) = record { linearity = diff_linear; sign = diff_sign; monotonicity = diff_trend }
linear_lawful (Trace x) = strided_lawful trace_call trace_is
linear_lawful (Diag x) = strided_lawful diag_call diag_is
linear_lawful (Index x) = strided_lawful (index_call (sides_of x.from) (sides_of x.to) x.places) (index_is (sides_of x.from) (sides_of x.to) x.places)
linear_lawful (Reshape x) = strided_lawful (reshape_call (sides_of x.to) x.by_columns) (reshape_is (sides_of x.to) x.by_columns)
linear_lawful (Transpose x) = strided_lawful transpose_call transpose_is
linear_lawful (HStack x) = record { linearity = hstack_linear; sign = hstack_sign; monotonicity = hstack_trend }
linear_lawful (VStack x) = record { linearity = vstack_linear; sign = vstack_sign; monotonicity = vstack_trend }
linear_lawful (Promote x) = strided_lawful (promote_call (sides_of x.to)) (promote_is (sides_of x.to))
