-- Whether two calls are the same, field by field.
use Rattle.std.specs.Prelude.{nat_eq, Bool, true, false, not, ◌&&◌, List}
use Rattle.std.specs.Cmp.Lexicographic.{pointwise}
use Rattle.dcx_math.specs.Rational.{rat_eq}
use Rattle.dcx_frac.specs.declared.fraction.Frac.{Frac}
use Rattle.dcx_frac.specs.Frac.{value}
use Rattle.dcx_shape.specs.declared.shape.Shape.{Shape}
use Rattle.dcx_shape.specs.Shape.{sides_of}
use Rattle.dcx_atom.specs.declared.array.Array.{Array}
use Rattle.dcx_atom.specs.declared.axis.Axis.{Axis}
use Rattle.dcx_atom.specs.declared.axis.Axis.TheVariants as axes
use Rattle.dcx_affine.specs.declared.pairing.Pairing.{Pairing}
use Rattle.dcx_affine.specs.declared.pairing.Pairing.TheVariants.{Times, MatTimes, Over}
use Rattle.dcx_affine.specs.Places.{same_sides}
use Rattle.dcx_point.specs.Pairs.{same_name}
use Rattle.dcx_call.specs.declared.attribute.Attribute.{Attribute}
use Rattle.dcx_call.specs.declared.attribute.Attribute.TheVariants.{Free, Nonneg, Nonpos, Symmetric, Diag as Diagonal}
use Rattle.dcx_call.specs.declared.attribute.Whole.{Whole}
use Rattle.dcx_call.specs.declared.attribute.Whole.TheVariants.{Not, Integer, Boolean}
use Rattle.dcx_call.specs.declared.atoms.AtomCall.{AtomCall}
use Rattle.dcx_call.specs.declared.atoms.AtomCall.TheVariants.{Abs, Maximum, Minimum, Pos, Neg, MaxOf, MinOf, Norm1, NormInf, SumLargest, SumSmallest, CumMax}
use Rattle.dcx_call.specs.declared.linears.LinearCall.{LinearCall}
use Rattle.dcx_call.specs.declared.linears.LinearCall.TheVariants.{Plus, Minus, Sum, Mean, CumSum, Diff, Trace, Diag, Index, Reshape, Transpose, HStack, VStack, Promote}
use Rattle.dcx_call.specs.declared.call.Call.{Call}
use Rattle.dcx_call.specs.declared.call.Call.TheVariants as calls

abbrev pub same_bool : Bool → Bool → Bool
same_bool true b = b
same_bool false b = not b

abbrev pub same_shape : Shape → Shape → Bool
same_shape a b = same_sides (sides_of a) (sides_of b)

abbrev pub same_numbers : List Frac → List Frac → Bool
same_numbers xs ys = pointwise (λ x y. rat_eq (value x) (value y)) xs ys

abbrev pub same_array : Array → Array → Bool
same_array a b = same_shape a.shape b.shape && same_numbers a.entries b.entries

abbrev pub same_axis : Axis → Axis → Bool
same_axis axes.All axes.All = true
same_axis axes.Zero axes.Zero = true
same_axis axes.One axes.One = true
same_axis a b = false

abbrev pub same_attribute : Attribute → Attribute → Bool
same_attribute Free Free = true
same_attribute Nonneg Nonneg = true
same_attribute Nonpos Nonpos = true
same_attribute Symmetric Symmetric = true
same_attribute Diagonal Diagonal = true
same_attribute a b = false

abbrev pub same_whole : Whole → Whole → Bool
same_whole Not Not = true
same_whole Integer Integer = true
same_whole Boolean Boolean = true
same_whole a b = false

abbrev pub same_pairing : Pairing → Pairing → Bool
same_pairing Times Times = true
same_pairing MatTimes MatTimes = true
same_pairing Over Over = true
same_pairing a b = false

abbrev pub same_atom : AtomCall → AtomCall → Bool
same_atom (Abs a) (Abs b) = true
same_atom (Maximum a) (Maximum b) = nat_eq a.count b.count
same_atom (Minimum a) (Minimum b) = nat_eq a.count b.count
same_atom (Pos a) (Pos b) = true
same_atom (Neg a) (Neg b) = true
same_atom (MaxOf a) (MaxOf b) = same_axis a.axis b.axis
same_atom (MinOf a) (MinOf b) = same_axis a.axis b.axis
same_atom (Norm1 a) (Norm1 b) = same_axis a.axis b.axis
same_atom (NormInf a) (NormInf b) = same_axis a.axis b.axis
same_atom (SumLargest a) (SumLargest b) = nat_eq a.k b.k
same_atom (SumSmallest a) (SumSmallest b) = nat_eq a.k b.k
same_atom (CumMax a) (CumMax b) = true
same_atom a b = false

abbrev pub same_linear : LinearCall → LinearCall → Bool
same_linear (Plus a) (Plus b) = true
same_linear (Minus a) (Minus b) = true
same_linear (Sum a) (Sum b) = same_axis a.axis b.axis
same_linear (Mean a) (Mean b) = same_axis a.axis b.axis
same_linear (CumSum a) (CumSum b) = same_axis a.axis b.axis
same_linear (Diff a) (Diff b) = true
same_linear (Trace a) (Trace b) = true
same_linear (Diag a) (Diag b) = true
same_linear (Index a) (Index b) = same_shape a.from b.from && (same_shape a.to b.to && pointwise nat_eq a.places b.places)
same_linear (Reshape a) (Reshape b) = same_shape a.to b.to && same_bool a.by_columns b.by_columns
same_linear (Transpose a) (Transpose b) = true
same_linear (HStack a) (HStack b) = true
same_linear (VStack a) (VStack b) = true
same_linear (Promote a) (Promote b) = same_shape a.to b.to
same_linear a b = false

abbrev pub same_call : Call → Call → Bool
same_call (calls.Variable a) (calls.Variable b) =
    same_name a.name b.name && (same_shape a.shape b.shape && (same_attribute a.attribute b.attribute && same_whole a.whole b.whole))
same_call (calls.Parameter a) (calls.Parameter b) = same_name a.name b.name && (same_shape a.shape b.shape && same_attribute a.attribute b.attribute)
same_call (calls.Constant a) (calls.Constant b) = same_array a b
same_call (calls.Atom a) (calls.Atom b) = same_atom a b
same_call (calls.Linear a) (calls.Linear b) = same_linear a b
same_call (calls.Pairing a) (calls.Pairing b) = same_pairing a b
same_call a b = false
