-- Two calls are the same, field by field, exactly where they are equal.
use Rattle.std.proofs.Common.{◌≡◌, Bool, true, false, ◌&&◌, nat_eq, refl, ap, ap₂}
use Rattle.std.specs.Bool.{Decides}
use Rattle.std.specs.Cmp.Lexicographic.{pointwise, pointwise_decides, bytes_decides}
use Rattle.std.proofs.lemmas.Bool.{and_parts, and_from}
use Rattle.std.proofs.lemmas.Bool.Decides.{Decides-eqb}
use Rattle.dcx_math.specs.Rational.{rat_eq}
use Rattle.dcx_math.proofs.Ratios.{IsTrue-rat_eq}
use Rattle.dcx_frac.specs.declared.fraction.Frac.{Frac}
use Rattle.dcx_frac.specs.Frac.{value}
use Rattle.dcx_frac.proofs.Parts.{value_injective}
use Rattle.dcx_shape.specs.declared.shape.Sides.{Sides}
use Rattle.dcx_shape.specs.declared.shape.Sides.TheVariants.{Scalar, Vector, Matrix}
use Rattle.dcx_shape.specs.declared.shape.Shape.{Shape}
use Rattle.dcx_shape.specs.Shape.{sides_of}
use Rattle.dcx_atom.specs.declared.array.Array.{Array}
use Rattle.dcx_atom.specs.declared.axis.Axis.{Axis}
use Rattle.dcx_atom.specs.declared.axis.Axis.TheVariants as axes
use Rattle.dcx_affine.specs.declared.pairing.Pairing.{Pairing}
use Rattle.dcx_affine.specs.declared.pairing.Pairing.TheVariants.{Times, MatTimes, Over}
use Rattle.dcx_affine.specs.declared.places.Index.{Index}
use Rattle.dcx_affine.specs.Places.{same_sides}
use Rattle.dcx_point.specs.Pairs.{same_name}
use Rattle.dcx_call.specs.declared.attribute.Attribute.{Attribute}
use Rattle.dcx_call.specs.declared.attribute.Attribute.TheVariants.{Free, Nonneg, Nonpos, Symmetric, Diag as Diagonal}
use Rattle.dcx_call.specs.declared.attribute.Whole.{Whole}
use Rattle.dcx_call.specs.declared.attribute.Whole.TheVariants.{Not, Integer, Boolean}
use Rattle.dcx_call.specs.declared.atoms.AtomCall.{AtomCall}
use Rattle.dcx_call.specs.declared.atoms.AtomCall.TheVariants.{Abs, Maximum, Minimum, Pos, Neg, MaxOf, MinOf, Norm1, NormInf, SumLargest, SumSmallest, CumMax}
use Rattle.dcx_call.specs.declared.linears.LinearCall.{LinearCall}
use Rattle.dcx_call.specs.declared.linears.LinearCall.TheVariants.{Plus, Minus, Sum, Mean, CumSum, Diff, Trace, Diag, Index as Indexed, Reshape, Transpose, HStack, VStack, Promote}
use Rattle.dcx_call.specs.declared.call.Call.{Call}
use Rattle.dcx_call.specs.declared.call.Call.TheVariants as calls
use Rattle.dcx_script_values.specs.Same.{same_bool, same_shape, same_numbers, same_array, same_axis, same_attribute, same_whole, same_pairing, same_atom, same_linear, same_call}
use Rattle.dcx_array.proofs.Equals.{index_from_parts}
use Rattle.dcx_shape.proofs.OneShape.{shape_from_sides}
use Rattle.dcx_atom.proofs.OneArray.{array_from_parts}

-- two tests that decide the parts decide the whole
pub two : {P Q R : Type 0} (a b : Bool) → Decides a P → Decides b Q → (P → Q → R) → (R → P) → (R → Q) → Decides (a && b) R
two a b p q whole first second = (λ e. let t = and_parts a b e in whole (p.0 t.0) (q.0 t.1), λ r. and_from a b (p.1 (first r)) (q.1 (second r)))

-- a test of a part that is all of the whole
one : {P R : Type 0} (a : Bool) → Decides a P → (P → R) → (R → P) → Decides a R
one a p whole part = (λ e. whole (p.0 e), λ r. p.1 (part r))

bools : (a b : Bool) → Decides (same_bool a b) (a ≡ b)
bools true true = (λ e. refl, λ e. refl)
bools true false = (λ e. absurd (cc), λ e. absurd (cc))
bools false true = (λ e. absurd (cc), λ e. absurd (cc))
bools false false = (λ e. refl, λ e. refl)

pub sides_decide : (a b : Sides) → Decides (same_sides a b) (a ≡ b)
sides_decide Scalar Scalar = (λ e. refl, λ e. refl)
sides_decide Scalar (Vector n) = (λ e. absurd (cc), λ e. absurd (cc))
sides_decide Scalar (Matrix m n) = (λ e. absurd (cc), λ e. absurd (cc))
sides_decide (Vector n) Scalar = (λ e. absurd (cc), λ e. absurd (cc))
sides_decide (Vector n) (Vector l) = one (nat_eq n l) (Decides-eqb n l) (ap Vector) (λ e. cc)
sides_decide (Vector n) (Matrix l p) = (λ e. absurd (cc), λ e. absurd (cc))
sides_decide (Matrix m n) Scalar = (λ e. absurd (cc), λ e. absurd (cc))
sides_decide (Matrix m n) (Vector l) = (λ e. absurd (cc), λ e. absurd (cc))
sides_decide (Matrix m n) (Matrix l p) = two (nat_eq m l) (nat_eq n p) (Decides-eqb m l) (Decides-eqb n p) (λ e f. ap₂ Matrix e f) (λ e. cc) (λ e. cc)

pub shapes_decide : (a b : Shape) → Decides (same_shape a b) (a ≡ b)
shapes_decide a b = one (same_shape a b) (sides_decide (sides_of a) (sides_of b)) (shape_from_sides a b) (ap sides_of)

fractions : (x y : Frac) → Decides (rat_eq (value x) (value y)) (x ≡ y)
fractions x y = (λ e. value_injective x y ((IsTrue-rat_eq (value x) (value y)).0 e), λ e. (IsTrue-rat_eq (value x) (value y)).1 (ap value e))

arrays : (a b : Array) → Decides (same_array a b) (a ≡ b)
arrays a b =
    two (same_shape a.shape b.shape) (same_numbers a.entries b.entries) (shapes_decide a.shape b.shape) (pointwise_decides fractions a.entries b.entries)
    (array_from_parts a b) (ap (λ z. z.shape)) (ap (λ z. z.entries))

axes_decide : (a b : Axis) → Decides (same_axis a b) (a ≡ b)
axes_decide axes.All axes.All = (λ e. refl, λ e. refl)
axes_decide axes.Zero axes.Zero = (λ e. refl, λ e. refl)
axes_decide axes.One axes.One = (λ e. refl, λ e. refl)
axes_decide a b = (λ e. absurd (cc), λ e. absurd (cc))

attributes : (a b : Attribute) → Decides (same_attribute a b) (a ≡ b)
attributes Free Free = (λ e. refl, λ e. refl)
attributes Nonneg Nonneg = (λ e. refl, λ e. refl)
attributes Nonpos Nonpos = (λ e. refl, λ e. refl)
attributes Symmetric Symmetric = (λ e. refl, λ e. refl)
attributes Diagonal Diagonal = (λ e. refl, λ e. refl)
attributes a b = (λ e. absurd (cc), λ e. absurd (cc))

wholes : (a b : Whole) → Decides (same_whole a b) (a ≡ b)
wholes Not Not = (λ e. refl, λ e. refl)
wholes Integer Integer = (λ e. refl, λ e. refl)
wholes Boolean Boolean = (λ e. refl, λ e. refl)
wholes a b = (λ e. absurd (cc), λ e. absurd (cc))

pairings : (a b : Pairing) → Decides (same_pairing a b) (a ≡ b)
pairings Times Times = (λ e. refl, λ e. refl)
pairings MatTimes MatTimes = (λ e. refl, λ e. refl)
pairings Over Over = (λ e. refl, λ e. refl)
pairings a b = (λ e. absurd (cc), λ e. absurd (cc))

atoms : (a b : AtomCall) → Decides (same_atom a b) (a ≡ b)
atoms (Abs a) (Abs b) = (λ e. refl, λ e. refl)
atoms (Maximum a) (Maximum b) = one (nat_eq a.count b.count) (Decides-eqb a.count b.count) (λ e. ap (λ n. Maximum (record { count = n })) e) (λ e. cc)
atoms (Minimum a) (Minimum b) = one (nat_eq a.count b.count) (Decides-eqb a.count b.count) (λ e. ap (λ n. Minimum (record { count = n })) e) (λ e. cc)
atoms (Pos a) (Pos b) = (λ e. refl, λ e. refl)
atoms (Neg a) (Neg b) = (λ e. refl, λ e. refl)
atoms (MaxOf a) (MaxOf b) = one (same_axis a.axis b.axis) (axes_decide a.axis b.axis) (λ e. ap (λ n. MaxOf (record { axis = n })) e) (λ e. cc)
atoms (MinOf a) (MinOf b) = one (same_axis a.axis b.axis) (axes_decide a.axis b.axis) (λ e. ap (λ n. MinOf (record { axis = n })) e) (λ e. cc)
atoms (Norm1 a) (Norm1 b) = one (same_axis a.axis b.axis) (axes_decide a.axis b.axis) (λ e. ap (λ n. Norm1 (record { axis = n })) e) (λ e. cc)
atoms (NormInf a) (NormInf b) = one (same_axis a.axis b.axis) (axes_decide a.axis b.axis) (λ e. ap (λ n. NormInf (record { axis = n })) e) (λ e. cc)
atoms (SumLargest a) (SumLargest b) = one (nat_eq a.k b.k) (Decides-eqb a.k b.k) (λ e. ap (λ n. SumLargest (record { k = n })) e) (λ e. cc)
atoms (SumSmallest a) (SumSmallest b) = one (nat_eq a.k b.k) (Decides-eqb a.k b.k) (λ e. ap (λ n. SumSmallest (record { k = n })) e) (λ e. cc)
atoms (CumMax a) (CumMax b) = (λ e. refl, λ e. refl)
atoms a b = (λ e. absurd (cc), λ e. absurd (cc))

indices : (a b : Index) → Decides (same_shape a.from b.from && (same_shape a.to b.to && pointwise nat_eq a.places b.places)) (a ≡ b)
indices a b =
    two (same_shape a.from b.from) (same_shape a.to b.to && pointwise nat_eq a.places b.places) (shapes_decide a.from b.from)
    (two {R = (a.to ≡ b.to) × (a.places ≡ b.places)} (same_shape a.to b.to) (pointwise nat_eq a.places b.places) (shapes_decide a.to b.to)
    (bytes_decides a.places b.places) (λ e f. (e, f)) (λ r. r.0) (λ r. r.1))
    (λ e r. index_from_parts a b e r.0 r.1) (ap (λ z. z.from)) (λ e. (ap (λ z. z.to) e, ap (λ z. z.places) e))

linears : (a b : LinearCall) → Decides (same_linear a b) (a ≡ b)
linears (Plus a) (Plus b) = (λ e. refl, λ e. refl)
linears (Minus a) (Minus b) = (λ e. refl, λ e. refl)
linears (Sum a) (Sum b) = one (same_axis a.axis b.axis) (axes_decide a.axis b.axis) (λ e. ap (λ n. Sum (record { axis = n })) e) (λ e. cc)
linears (Mean a) (Mean b) = one (same_axis a.axis b.axis) (axes_decide a.axis b.axis) (λ e. ap (λ n. Mean (record { axis = n })) e) (λ e. cc)
linears (CumSum a) (CumSum b) = one (same_axis a.axis b.axis) (axes_decide a.axis b.axis) (λ e. ap (λ n. CumSum (record { axis = n })) e) (λ e. cc)
linears (Diff a) (Diff b) = (λ e. refl, λ e. refl)
linears (Trace a) (Trace b) = (λ e. refl, λ e. refl)
linears (Diag a) (Diag b) = (λ e. refl, λ e. refl)
linears (Indexed a) (Indexed b) = one (same_shape a.from b.from && (same_shape a.to b.to && pointwise nat_eq a.places b.places)) (indices a b) (ap Indexed) (λ e. cc)
linears (Reshape a) (Reshape b) =
    two (same_shape a.to b.to) (same_bool a.by_columns b.by_columns) (shapes_decide a.to b.to) (bools a.by_columns b.by_columns)
    (λ e f. ap₂ (λ s c. Reshape (record { to = s; by_columns = c })) e f) (λ e. cc) (λ e. cc)
linears (Transpose a) (Transpose b) = (λ e. refl, λ e. refl)
linears (HStack a) (HStack b) = (λ e. refl, λ e. refl)
linears (VStack a) (VStack b) = (λ e. refl, λ e. refl)
linears (Promote a) (Promote b) = one (same_shape a.to b.to) (shapes_decide a.to b.to) (λ e. ap (λ s. Promote (record { to = s })) e) (λ e. cc)
linears a b = (λ e. absurd (cc), λ e. absurd (cc))

-- two calls are the same where they are equal
pub calls_decide : (a b : Call) → Decides (same_call a b) (a ≡ b)
calls_decide (calls.Variable a) (calls.Variable b) =
    two (same_name a.name b.name) (same_shape a.shape b.shape && (same_attribute a.attribute b.attribute && same_whole a.whole b.whole)) (bytes_decides a.name b.name)
    (two {R = (a.shape ≡ b.shape) × ((a.attribute ≡ b.attribute) × (a.whole ≡ b.whole))} (same_shape a.shape b.shape)
    (same_attribute a.attribute b.attribute && same_whole a.whole b.whole) (shapes_decide a.shape b.shape)
    (two {R = (a.attribute ≡ b.attribute) × (a.whole ≡ b.whole)} (same_attribute a.attribute b.attribute) (same_whole a.whole b.whole) (attributes a.attribute b.attribute)
    (wholes a.whole b.whole) (λ e f. (e, f)) (λ r. r.0) (λ r. r.1))
    (λ e f. (e, f)) (λ r. r.0) (λ r. r.1))
    (λ e r. λ i. calls.Variable (record { name = e i; shape = r.0 i; attribute = r.1.0 i; whole = r.1.1 i }))
    (λ e. cc) (λ e. (cc, (cc, cc)))
calls_decide (calls.Parameter a) (calls.Parameter b) =
    two (same_name a.name b.name) (same_shape a.shape b.shape && same_attribute a.attribute b.attribute) (bytes_decides a.name b.name)
    (two {R = (a.shape ≡ b.shape) × (a.attribute ≡ b.attribute)} (same_shape a.shape b.shape) (same_attribute a.attribute b.attribute) (shapes_decide a.shape b.shape)
    (attributes a.attribute b.attribute) (λ e f. (e, f)) (λ r. r.0) (λ r. r.1))
    (λ e r. λ i. calls.Parameter (record { name = e i; shape = r.0 i; attribute = r.1 i }))
    (λ e. cc) (λ e. (cc, cc))
calls_decide (calls.Constant a) (calls.Constant b) = one (same_array a b) (arrays a b) (ap calls.Constant) (λ e. cc)
calls_decide (calls.Atom a) (calls.Atom b) = one (same_atom a b) (atoms a b) (ap calls.Atom) (λ e. cc)
calls_decide (calls.Linear a) (calls.Linear b) = one (same_linear a b) (linears a b) (ap calls.Linear) (λ e. cc)
calls_decide (calls.Pairing a) (calls.Pairing b) = one (same_pairing a b) (pairings a b) (ap calls.Pairing) (λ e. cc)
calls_decide a b = (λ e. absurd (cc), λ e. absurd (cc))
