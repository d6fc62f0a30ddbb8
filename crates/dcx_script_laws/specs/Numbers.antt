-- `x - y` and `x + (-y)` stand for the same numbers, whatever is subtracted from what.
use Rattle.std.specs.Prelude.{◌≡◌, ℕ, List, [], ◌∷◌, Ok}
use Rattle.dcx_shape.specs.declared.place.Place.{Place}
use Rattle.dcx_arena.specs.Nodes.{Node}
use Rattle.dcx_arena.specs.Unfold.{Expressions, Unfold}
use Rattle.dcx_call.specs.declared.call.Call.{Call}
use Rattle.dcx_call.specs.Values.{Given}
use Rattle.dcx_tree.specs.Expressions.{values_of}
use Rattle.dcx_syntax.specs.declared.tree.Sign.TheVariants.{Minus}
use Rattle.dcx_script_values.specs.Values.{Value, expression, State}
use Rattle.dcx_operators.specs.Operators.{add_values}
use Rattle.dcx_script_laws.specs.Trees.{HasTree, IsThere}
use Rattle.dcx_script_laws.specs.Differences.{plus_negative}

-- two nodes, each in its own list, stand for expressions with the same sides and the same numbers, at every setting and every
-- point
pub record HaveSameNumbers (nodes : List (Node Call)) (i : ℕ) (others : List (Node Call)) (j : ℕ) : Type 0 where
  pub left : Expressions Call
  pub right : Expressions Call
  pub left_is : Unfold nodes (i ∷ []) left
  pub right_is : Unfold others (j ∷ []) right
  pub numbers : (setting point : Given) → values_of setting point left ≡ values_of setting point right

-- where a difference and the sum with the negative are both nodes, they have the same numbers: of two nodes, of a node and a
-- plain array or a list of numbers
abbrev pub DifferencesHaveSameNumbers : Type 0
DifferencesHaveSameNumbers = (place : Place) (v w : Value) (s t u : State) (x y : ℕ) → HasTree s → IsThere s v → IsThere s w →
    add_values Minus place v w s ≡ Ok (expression x, t) → plus_negative place v w s ≡ Ok (expression y, u) → HaveSameNumbers t.nodes x u.nodes y
