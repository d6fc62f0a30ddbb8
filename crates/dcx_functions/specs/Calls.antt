-- What each call does, once its arguments are right.
use Rattle.std.specs.Prelude.{ℕ, zero, suc, nat_eq, nat_lt, pos, ℤ, unsigned_abs, Bool, true, false, not, ◌||◌, if◌then◌else◌, List, [], ◌∷◌, map, length, Option, Some, None, option_map, is_some}
use Rattle.std.specs.List.{list_any}
use Rattle.std.specs.Option.{unwrap_or}
use Rattle.dcx_frac.specs.declared.fraction.Frac.{Frac}
use Rattle.dcx_shape.specs.declared.shape.Sides.{Sides}
use Rattle.dcx_shape.specs.declared.shape.Sides.TheVariants.{Scalar, Vector, Matrix}
use Rattle.dcx_shape.specs.declared.place.Place.{Place}
use Rattle.dcx_shape.specs.Sides.{entries_of}
use Rattle.dcx_atom.specs.declared.axis.Axis.{Axis}
use Rattle.dcx_atom.specs.declared.axis.Axis.TheVariants as axes
use Rattle.dcx_atom.specs.Formed.{zero_frac, one_frac}
use Rattle.dcx_affine.specs.declared.pairing.Pairing.TheVariants as pairings
use Rattle.dcx_call.specs.declared.atoms.AtomCall.{AtomCall}
use Rattle.dcx_call.specs.declared.atoms.AtomCall.TheVariants as atoms
use Rattle.dcx_call.specs.declared.linears.LinearCall.{LinearCall}
use Rattle.dcx_call.specs.declared.linears.LinearCall.TheVariants as linears
use Rattle.dcx_call.specs.declared.call.Call.{Call}
use Rattle.dcx_call.specs.declared.call.Call.TheVariants as calls
use Rattle.dcx_tree.specs.declared.constraint.Sense.{Sense}
use Rattle.dcx_tree.specs.declared.constraint.Sense.TheVariants as senses
use Rattle.dcx_array.specs.Shapes.{shape_with, told}
use Rattle.dcx_array.specs.Arrays.{constant, identity}
use Rattle.dcx_script_values.specs.declared.fault.ElabFault.TheVariants.{BadArgument, NotOffered, ShapeClash, EmptyResult}
use Rattle.dcx_script_values.specs.Values.{Value, objective, Act, ◌>>=◌, ◌>>◌, done, fault, or_fault, or_array_fault, unless, read}
use Rattle.dcx_script_values.specs.Nodes.{Operand, operand_sides, pushed, push, called, broadcast_called}
use Rattle.dcx_script_values.specs.Kinds.{Reading, reading, whole_number, axis_of, sides_from, rows_array, list_items}
use Rattle.dcx_script_values.specs.Operands.{operands_read, operand_read, numbers_read, as_plain, as_expression}
use Rattle.dcx_script_state.specs.declared.flags.Flags.{Flags}
use Rattle.dcx_script_state.specs.Declarations.{declare_variable, declare_parameter, make_problem}
use Rattle.dcx_signature.specs.declared.table.Function.{Function}
use Rattle.dcx_signature.specs.declared.table.Function.TheVariants as functions
use Rattle.dcx_signature.specs.Fits.{is_one, is_true, is_infinity, is_by_rows}
use Rattle.dcx_signature.specs.Table.{
  x_word,
  matrix_word,
  a_word,
  b_word,
  v_word,
  e_word,
  n_word,
  k_word,
  list_word,
  axis_word,
  shape_word,
  order_word,
  value_word,
  nonneg_word,
  nonpos_word,
  symmetric_word,
  diag_word,
  boolean_word,
  integer_word,
  objective_word,
  constraints_word,
  first_word,
  second_word,
  step_word,
  shapely_words,
  row,
}
use Rattle.dcx_signature.specs.Arguments.{Bound, Given, given_for, value_for, arguments}
use Rattle.dcx_signature.specs.Turns.{range_from}

-- ---- what was given
abbrev pub reading_of : List ℕ → Bound → Reading
reading_of word bound = reading (value_for word bound)

abbrev pub operand_for : Place → List ℕ → Bound → Act Operand
operand_for place word bound = operand_read place (reading_of word bound)

abbrev pub sides_of_operand : Operand → Act Sides
sides_of_operand x = read (λ s. operand_sides s.nodes x)

-- the axis, and all entries where none is given
abbrev pub axis_for : Bound → Axis
axis_for bound = unwrap_or (axis_of (value_for axis_word bound)) axes.All

-- a whole number, and the default where none is given
abbrev pub whole_or : ℤ → List ℕ → Bound → ℤ
whole_or default word bound = unwrap_or (whole_number (value_for word bound)) default

abbrev pub natural_or : ℕ → List ℕ → Bound → ℕ
natural_or default word bound = unsigned_abs (whole_or (pos default) word bound)

-- of how many entries a call is, and how many arguments there are. What is too great for its type is told as the greatest,
-- which is still more than there may be
abbrev pub share_for : Bound → ℕ
share_for bound = told (natural_or 1 k_word bound)

abbrev pub count_of : Bound → ℕ
count_of bound = told (length bound)

abbrev pub is_set : List ℕ → Bound → Bool
is_set word bound = is_true (value_for word bound)

abbrev pub items_for : List ℕ → Bound → List Value
items_for word bound = list_items (value_for word bound)

-- ---- calls of expressions
-- a call of one expression
abbrev pub of_one : Place → Call → List ℕ → Bound → Act Value
of_one place call word bound = do
  x ← operand_for place word bound
  as_expression (called place call (x ∷ []))

abbrev pub of_two : Place → Call → Bound → Act Value
of_two place call bound = do
  xs ← operands_read place (reading_of a_word bound ∷ reading_of b_word bound ∷ [])
  as_expression (broadcast_called place call xs)

-- of all arguments, by position
abbrev pub of_several : Place → AtomCall → Bound → Act Value
of_several place call bound = do
  xs ← operands_read place (map (λ b. reading b.1) bound)
  as_expression (broadcast_called place (calls.Atom call) xs)

-- of the items of a list, of which there must be some
abbrev pub stacked : Place → LinearCall → List Value → Act Value
stacked place call vs = do
  unless (EmptyResult place) (not (nat_eq (length vs) 0))
  xs ← operands_read place (map reading vs)
  as_expression (called place (calls.Linear call) xs)

-- ---- reshaping
abbrev pub reshaped : Place → Operand → Sides → Bool → Act Value
reshaped place x sides by_columns = do
  to ← or_fault (ShapeClash place) (shape_with sides)
  as_expression (called place (calls.Linear (linears.Reshape (record { to = to; by_columns = by_columns }))) (x ∷ []))

abbrev pub vectorized : Place → Bound → Act Value
vectorized place bound = do
  x ← operand_for place x_word bound
  sides ← sides_of_operand x
  reshaped place x (Vector (entries_of sides)) true

abbrev pub reshape : Place → Bound → Act Value
reshape place bound = do
  x ← operand_for place x_word bound
  sides ← or_fault (BadArgument place) (sides_from (pos 1) (value_for shape_word bound))
  reshaped place x sides (not (is_by_rows (value_for order_word bound)))

-- ---- running sums: of a matrix the axis must be written
abbrev pub is_matrix : Sides → Bool
is_matrix Scalar = false
is_matrix (Vector n) = false
is_matrix (Matrix m n) = true

abbrev pub axis_is_written : Axis → Sides → Bool
axis_is_written axes.All sides = not (is_matrix sides)
axis_is_written axes.Zero sides = true
axis_is_written axes.One sides = true

abbrev pub running : Place → Bound → Act Value
running place bound = do
  x ← operand_for place x_word bound
  sides ← sides_of_operand x
  unless (BadArgument place) (axis_is_written (axis_for bound) sides)
  as_expression (called place (calls.Linear (linears.CumSum (record { axis = axis_for bound }))) (x ∷ []))

-- ---- differences: k times the call, one around the other
abbrev pub differences : Place → ℕ → ℕ → Act ℕ
differences place zero i = done i
differences place (suc k) i = do
  j ← push place (calls.Linear (linears.Diff (record {}))) (i ∷ [])
  differences place k j

-- a vector of more than k entries
abbrev pub longer_than : Place → ℕ → Sides → Act (Unit {0})
longer_than place k Scalar = fault (ShapeClash place)
longer_than place k (Vector n) = unless (EmptyResult place) (nat_lt k n)
longer_than place k (Matrix m n) = fault (ShapeClash place)

abbrev pub differenced : Place → ℕ → Bound → Act ℕ
differenced place k bound = do
  x ← operand_for place x_word bound
  sides ← sides_of_operand x
  longer_than place k sides
  i ← pushed place x
  differences place k i

-- the sum of the magnitudes of the differences
abbrev pub total_variation : Place → Bound → Act ℕ
total_variation place bound = do
  i ← differenced place 1 bound
  push place (calls.Atom (atoms.Norm1 (record { axis = axes.All }))) (i ∷ [])

-- ---- norms of order 1 and "inf", of a scalar or a vector
abbrev pub norm_call : Value → Option AtomCall
norm_call v =
    if is_one v then Some (atoms.Norm1 (record { axis = axes.All }))
    else (if is_infinity v then Some (atoms.NormInf (record { axis = axes.All })) else None)

abbrev pub norm : Place → Bound → Act Value
norm place bound = do
  call ← or_fault (NotOffered place) (norm_call (value_for order_word bound))
  x ← operand_for place x_word bound
  sides ← sides_of_operand x
  unless (NotOffered place) (not (is_matrix sides))
  as_expression (called place (calls.Atom call) (x ∷ []))

-- ---- objectives: one entry
abbrev pub objective_of : Place → Sense → Bound → Act Value
objective_of place sense bound = do
  x ← operand_for place e_word bound
  sides ← sides_of_operand x
  unless (ShapeClash place) (nat_eq (entries_of sides) 1)
  i ← pushed place x
  done (objective sense i place)

-- ---- constants and plain arrays
abbrev pub constant_of : Place → Bound → Act Value
constant_of place bound = do
  a ← numbers_read place (reading_of v_word bound)
  as_expression (push place (calls.Constant a) [])

-- a plain array of the sides that are given, with the same number everywhere
abbrev pub filled_with : Place → Frac → Bound → Act Value
filled_with place x bound = do
  sides ← or_fault (BadArgument place) (sides_from (pos 0) (value_for shape_word bound))
  as_plain (or_array_fault place (constant sides x))

abbrev pub identity_of : Place → Bound → Act Value
identity_of place bound = as_plain (or_array_fault place (identity (natural_or 0 n_word bound)))

abbrev pub array_of : Place → Bound → Act Value
array_of place bound = as_plain (or_fault (EmptyResult place) (rows_array (items_for v_word bound)))

-- ---- ranges
-- `range(stop)`, or `range(first, stop)`, with a step or without
abbrev pub range_of : Place → Bound → Act Value
range_of place bound =
    if is_some (given_for second_word bound)
    then range_from place (whole_or (pos 0) first_word bound) (whole_or (pos 0) second_word bound) (whole_or (pos 1) step_word bound)
    else range_from place (pos 0) (whole_or (pos 0) first_word bound) (pos 1)

-- ---- declarations, under the name to which they are assigned
abbrev pub declared_sides : Bound → Sides
declared_sides bound = unwrap_or (sides_from (pos 1) (value_for shape_word bound)) Scalar

abbrev pub flags_of : Bound → Flags
flags_of bound = record {
  nonneg = is_set nonneg_word bound;
  nonpos = is_set nonpos_word bound;
  symmetric = is_set symmetric_word bound;
  diag = is_set diag_word bound;
  boolean = is_set boolean_word bound;
  integer = is_set integer_word bound;
}

abbrev pub names_unoffered : Bound → Bool
names_unoffered bound = list_any (λ word. is_some (given_for word bound)) shapely_words

abbrev pub variable_of : Place → Option (List ℕ) → Bound → Act Value
variable_of place target bound = do
  name ← or_fault (NotOffered place) target
  declare_variable place name (declared_sides bound) (flags_of bound)

abbrev pub parameter_of : Place → Option (List ℕ) → Bound → Act Value
parameter_of place target bound = do
  name ← or_fault (NotOffered place) target
  declare_parameter place name (declared_sides bound) (is_set nonneg_word bound) (is_set nonpos_word bound) (names_unoffered bound)
      (option_map reading (given_for value_word bound))

abbrev pub problem_of : Place → Bound → Act Value
problem_of place bound = make_problem place (value_for objective_word bound) (items_for constraints_word bound)

-- ---- one line for each call
-- a call of x alone
abbrev pub linear : Place → LinearCall → Bound → Act Value
linear place call bound = of_one place (calls.Linear call) x_word bound

abbrev pub atom : Place → AtomCall → Bound → Act Value
atom place call bound = of_one place (calls.Atom call) x_word bound

-- under the name to which the call is assigned, where it is
abbrev pub perform : Option (List ℕ) → Function → Place → Bound → Act Value
perform target functions.Range place bound = range_of place bound
perform target functions.Variable place bound = variable_of place target bound
perform target functions.Parameter place bound = parameter_of place target bound
perform target functions.Constant place bound = constant_of place bound
perform target functions.Minimize place bound = objective_of place senses.Minimize bound
perform target functions.Maximize place bound = objective_of place senses.Maximize bound
perform target functions.Problem place bound = problem_of place bound
perform target functions.Array place bound = array_of place bound
perform target functions.Ones place bound = filled_with place one_frac bound
perform target functions.Zeros place bound = filled_with place zero_frac bound
perform target functions.Eye place bound = identity_of place bound
perform target functions.Multiply place bound = of_two place (calls.Pairing pairings.Times) bound
perform target functions.Vectorize place bound = vectorized place bound
perform target functions.Reshape place bound = reshape place bound
perform target functions.Sum place bound = linear place (linears.Sum (record { axis = axis_for bound })) bound
perform target functions.Mean place bound = linear place (linears.Mean (record { axis = axis_for bound })) bound
perform target functions.CumSum place bound = running place bound
perform target functions.Diff place bound = as_expression (differenced place (natural_or 1 k_word bound) bound)
perform target functions.Trace place bound = of_one place (calls.Linear (linears.Trace (record {}))) matrix_word bound
perform target functions.Diag place bound = linear place (linears.Diag (record {})) bound
perform target functions.HStack place bound = stacked place (linears.HStack (record {})) (items_for list_word bound)
perform target functions.VStack place bound = stacked place (linears.VStack (record {})) (items_for list_word bound)
perform target functions.Abs place bound = atom place (atoms.Abs (record {})) bound
perform target functions.Pos place bound = atom place (atoms.Pos (record {})) bound
perform target functions.Neg place bound = atom place (atoms.Neg (record {})) bound
perform target functions.Maximum place bound = of_several place (atoms.Maximum (record { count = count_of bound })) bound
perform target functions.Minimum place bound = of_several place (atoms.Minimum (record { count = count_of bound })) bound
perform target functions.MaxOf place bound = atom place (atoms.MaxOf (record { axis = axis_for bound })) bound
perform target functions.MinOf place bound = atom place (atoms.MinOf (record { axis = axis_for bound })) bound
perform target functions.Norm1 place bound = atom place (atoms.Norm1 (record { axis = axis_for bound })) bound
perform target functions.NormInf place bound = atom place (atoms.NormInf (record { axis = axis_for bound })) bound
perform target functions.SumLargest place bound = atom place (atoms.SumLargest (record { k = share_for bound })) bound
perform target functions.SumSmallest place bound = atom place (atoms.SumSmallest (record { k = share_for bound })) bound
perform target functions.CumMax place bound = atom place (atoms.CumMax (record {})) bound
perform target functions.Norm place bound = norm place bound
perform target functions.TotalVariation place bound = as_expression (total_variation place bound)

-- ---- a call of a function: declarations and the problem stand only where their value is assigned, which comes before every
-- fault of an argument; the target is the name to which the call is assigned, where it is the whole right side
abbrev pub must_be_assigned : Function → Bool
must_be_assigned functions.Variable = true
must_be_assigned functions.Parameter = true
must_be_assigned functions.Problem = true
must_be_assigned f = false

abbrev pub is_placed : Option (List ℕ) → Function → Bool
is_placed target f = not (must_be_assigned f) || is_some target

abbrev pub function_called : Option (List ℕ) → Place → Function → List Given → Act Value
function_called target place f gs = do
  unless (NotOffered place) (is_placed target f)
  nodes ← read (λ s. s.nodes)
  bound ← arguments nodes place (row f) gs
  perform target f place bound
