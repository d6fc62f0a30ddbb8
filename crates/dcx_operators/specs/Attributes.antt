-- Attributes that aren't called: `.T` alone.
use Rattle.std.specs.Prelude.{ℕ, not, if◌then◌else◌, codes, List, [], ◌∷◌}
use Rattle.dcx_shape.specs.declared.shape.Sides.{Sides}
use Rattle.dcx_shape.specs.declared.shape.Sides.TheVariants.{Scalar, Vector, Matrix}
use Rattle.dcx_shape.specs.declared.place.Place.{Place}
use Rattle.dcx_shape.specs.Shape.{sides_of}
use Rattle.dcx_atom.specs.declared.array.Array.{Array}
use Rattle.dcx_point.specs.Pairs.{same_name}
use Rattle.dcx_call.specs.declared.call.Call.TheVariants as calls
use Rattle.dcx_call.specs.declared.linears.LinearCall.TheVariants as linears
use Rattle.dcx_array.specs.Operators.{transposed}
use Rattle.dcx_script_values.specs.declared.fault.ElabFault.TheVariants.{NotOffered}
use Rattle.dcx_script_values.specs.Values.{Value, plain, expression, Act, ◌>>=◌, ◌>>◌, done, fault, or_array_fault, unless}
use Rattle.dcx_script_values.specs.Nodes.{sides_of_node, push}
use Rattle.dcx_script_values.specs.Kinds.{is_scalar}
use Rattle.dcx_script_values.specs.Operands.{as_plain, as_expression}

-- a scalar and a vector are their own transposes
abbrev pub node_turned : Place → ℕ → Sides → Act ℕ
node_turned place i Scalar = done i
node_turned place i (Vector n) = done i
node_turned place i (Matrix m n) = push place (calls.Linear (linears.Transpose (record {}))) (i ∷ [])

abbrev pub transposed_node : Place → ℕ → Act ℕ
transposed_node place i = do
  sides ← sides_of_node i
  node_turned place i sides

-- a plain number has no `.T`
abbrev pub transposed_plain : Place → Array → Act Value
transposed_plain place a = do
  unless (NotOffered place) (not (is_scalar (sides_of a.shape)))
  as_plain (or_array_fault place (transposed a))

abbrev pub transposed_value : Place → Value → Act Value
transposed_value place (plain a) = transposed_plain place a
transposed_value place (expression i) = as_expression (transposed_node place i)
transposed_value place v = fault (NotOffered place)

abbrev pub attribute_value : Place → List ℕ → Value → Act Value
attribute_value place name v = if same_name name (codes "T") then transposed_value place v else fault (NotOffered place)
