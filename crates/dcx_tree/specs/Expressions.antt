-- The value of an expression as a finite tree, call by call.
use Rattle.std.specs.Prelude.{List, [], ◌∷◌, map, Option}
use Rattle.std.specs.Option.{unwrap_or}
use Rattle.dcx_shape.specs.declared.shape.Sides.{Sides}
use Rattle.dcx_shape.specs.declared.shape.Sides.TheVariants.{Scalar}
use Rattle.dcx_shape.specs.Sides.{entries_of}
use Rattle.dcx_arena.specs.Unfold.{Expressions, none, one}
use Rattle.dcx_convex.specs.Nodes.{Numbers, first_of, arguments}
use Rattle.dcx_call.specs.declared.call.Call.{Call}
use Rattle.dcx_call.specs.Calls.{shape_of}
use Rattle.dcx_call.specs.Values.{Given, call_value}

-- how long the sides of a value are, and its numbers, which are 0 past its entries
pub record Value : Type 0 where
  pub sides : Sides
  pub numbers : Numbers

-- a call of arguments of these sides and numbers, whose own sides are the last
abbrev pub value_from : Call → (setting point : Given) → List Sides → List Numbers → Option Sides → Value
value_from call setting point sides numbers own = record {
  sides = unwrap_or own Scalar;
  numbers = first_of (entries_of (unwrap_or own Scalar)) (call_value call setting point sides (arguments numbers));
}

-- the value of a call at these values
abbrev pub value_of : Call → (setting point : Given) → List Value → Value
value_of call setting point args =
    value_from call setting point (map (λ v. v.sides) args) (map (λ v. v.numbers) args) (shape_of call (map (λ v. v.sides) args))

-- the values of these expressions, where setting and point give the numbers of names
abbrev pub values_of : (setting point : Given) → Expressions Call → List Value
values_of setting point none = []
values_of setting point (one call args others) = value_of call setting point (values_of setting point args) ∷ values_of setting point others
