-- What a list holds counts less than the list.
use Rattle.std.specs.Prelude.{◌≤◌, ◌<◌, ◌+◌, ◌*◌, List, [], ◌∷◌}
use Rattle.std.proofs.Common.{arith}
use denote.Param.Weighed.{most}
use Rattle.dcx_shape.specs.declared.shape.Sides.{Sides}
use Rattle.dcx_shape.specs.declared.shape.Sides.TheVariants.{Scalar, Vector, Matrix}
use Rattle.dcx_shape.specs.Shape.{sides_of}
use Rattle.dcx_script_values.specs.declared.value.Value.{Value}
use Rattle.dcx_script_values.specs.declared.value.Value.TheVariants as values
use Rattle.dcx_script_values.specs.declared.items.Items.TheDeep.{deep-Value}
use Rattle.dcx_script_values.specs.Values.{plain_count, counted}
use Rattle.dcx_script_values.specs.Meant.{meant, items_meant, twice_count}

pub plain_count-positive : (s : Sides) → 0 < plain_count s
plain_count-positive Scalar = omega arith
plain_count-positive (Vector n) = omega arith
plain_count-positive (Matrix m n) = omega arith

pub deep_le-counted : (v : Value) → deep-Value v + 1 ≤ 2 * counted (meant v)
deep_le-counted (values.Plain array) = omega (arith, plain_count-positive (sides_of array.value.shape))
deep_le-counted (values.Text bytes) = omega arith
deep_le-counted (values.Truth b) = omega arith
deep_le-counted values.Nothing = omega arith
deep_le-counted (values.Tuple items) = omega arith
deep_le-counted (values.List items) = omega arith
deep_le-counted (values.Range r) = omega arith
deep_le-counted (values.Library m) = omega arith
deep_le-counted (values.Expression node) = omega arith
deep_le-counted (values.Constraint c) = omega arith
deep_le-counted (values.Objective o) = omega arith
deep_le-counted values.Problem = omega arith
deep_le-counted values.Result = omega arith

pub most_deep_le : (vs : List Value) → most deep-Value vs ≤ twice_count (items_meant vs)
most_deep_le [] = omega arith
most_deep_le (v ∷ vs) = omega (arith, deep_le-counted v, most_deep_le vs)

pub most_deeper_le : (vs : List Value) → most (λ v. deep-Value v + 1) vs ≤ twice_count (items_meant vs)
most_deeper_le [] = omega arith
most_deeper_le (v ∷ vs) = omega (arith, deep_le-counted v, most_deeper_le vs)
