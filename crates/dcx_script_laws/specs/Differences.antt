-- `x - y` beside `x + (-y)`, and `x >= y` beside `y <= x`.
use Rattle.std.specs.Prelude.{◌≡◌, ◌⊎◌, ◌<◌, ℕ, length, Result, Ok, Err, IsErr}
use Rattle.dcx_frac.specs.declared.fraction.Op.TheVariants.{Sub}
use Rattle.dcx_frac.specs.declared.fraction.Passes.{Passes}
use Rattle.dcx_shape.specs.declared.place.Place.{Place}
use Rattle.dcx_atom.specs.declared.array.Array.{Array}
use Rattle.dcx_array.specs.declared.fault.ArrayFault.{ArrayFault}
use Rattle.dcx_array.specs.declared.fault.ArrayFault.TheVariants.{Wide}
use Rattle.dcx_array.specs.Operators.{negated_number, added, subtracted, negated}
use Rattle.dcx_syntax.specs.declared.tree.Sign.TheVariants.{Plus, Minus}
use Rattle.dcx_syntax.specs.declared.tree.Comparison.TheVariants.{AtMost, AtLeast}
use Rattle.dcx_script_values.specs.declared.fault.ElabFault.{ElabFault}
use Rattle.dcx_script_values.specs.declared.fault.ElabFault.TheVariants.{ShapeClash, PlainWide}
use Rattle.dcx_script_values.specs.Values.{Value, expression, State, Act, ◌>>=◌}
use Rattle.dcx_script_values.specs.View.{HasNoNode}
use Rattle.dcx_operators.specs.Operators.{add_values, sign_value, compare_values}
use Rattle.dcx_script_laws.specs.Trees.{HasTree}

-- ---- plain arrays
-- the difference that passes 128 bits where this sum with the negative does
abbrev pub difference_passes : Passes → Passes
difference_passes p = record { op = Sub; left = p.left; right = negated_number p.right }

abbrev pub difference_fault : ArrayFault → ArrayFault
difference_fault (Wide passes) = Wide (difference_passes passes)
difference_fault fault = fault

-- the same array, or the same fault, where an operation that passes is told as the difference
abbrev pub of_difference : {A : Type 0} → Result A ArrayFault → Result A ArrayFault
of_difference (Ok x) = Ok x
of_difference (Err fault) = Err (difference_fault fault)

-- ---- values
abbrev pub difference_fault_at : ElabFault → ElabFault
difference_fault_at (PlainWide place passes) = PlainWide place (difference_passes passes)
difference_fault_at fault = fault

abbrev pub told_as_difference : {A : Type 0} → Result A ElabFault → Result A ElabFault
told_as_difference (Ok x) = Ok x
told_as_difference (Err fault) = Err (difference_fault_at fault)

-- `v + (-w)`, where the sign and the sum stand at one place
abbrev pub plus_negative : Place → Value → Value → Act Value
plus_negative place v w = do
  u ← sign_value Minus place w
  add_values Plus place v u

-- the same, but where the first has this fault, the other may have another
abbrev pub SameUnless : {A : Type 0} → ElabFault → Result A ElabFault → Result A ElabFault → Type 0
SameUnless fault r q = (r ≡ q) ⊎ ((r ≡ Err fault) × IsErr q)

-- The difference of plain arrays is the sum with the negative, and it has the same faults; so it is for all values that are
-- no nodes. For nodes it is the sum with the negative's node, in the same state, with the same faults; but the difference
-- tells that shapes don't fit before there is no room for the negative. And `v >= w` is `w <= v`.
pub record HoldsForDifferences : Type 0 where
  pub arrays : (a b : Array) → subtracted a b ≡ of_difference (added a (negated b))
  pub plain : (place : Place) (v w : Value) → HasNoNode v → HasNoNode w → (s : State) → add_values Minus place v w s ≡ told_as_difference (plus_negative place v w s)
  pub nodes : (place : Place) (i j : ℕ) (s : State) → HasTree s → i < length s.nodes →
      SameUnless (ShapeClash place) (add_values Minus place (expression i) (expression j) s) (plus_negative place (expression i) (expression j) s)
  pub at_least : (place : Place) (v w : Value) (s : State) → compare_values AtLeast place v w s ≡ compare_values AtMost place w v s
