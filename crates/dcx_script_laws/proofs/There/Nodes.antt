-- Nodes, operands, declarations, arguments and items: what comes of them is there.
use Rattle.std.proofs.Common.{ℕ, ℤ, Bool, true, false, if◌then◌else◌, List, [], ◌∷◌, ◌++◌, map, Option, Some, None}
use Rattle.std.specs.Map.{lookup}
use Rattle.dcx_shape.specs.declared.shape.Sides.{Sides}
use Rattle.dcx_shape.specs.declared.shape.Sides.TheVariants.{Scalar, Vector, Matrix}
use Rattle.dcx_shape.specs.declared.shape.Shape.{Shape}
use Rattle.dcx_shape.specs.declared.place.Place.{Place}
use Rattle.dcx_shape.specs.Shape.{sides_of}
use Rattle.dcx_shape.specs.Places.{places_below}
use Rattle.dcx_atom.specs.declared.array.Array.{Array}
use Rattle.dcx_arena.specs.Nodes.{Node}
use Rattle.dcx_point.specs.Pairs.{same_name}
use Rattle.dcx_call.specs.declared.call.Call.{Call}
use Rattle.dcx_array.specs.Arrays.{number}
use Rattle.dcx_tree.specs.declared.constraint.Kind.{Kind}
use Rattle.dcx_script_values.specs.Values.{Value, Values, plain, list, range, expression, end, item, values_of, items_of, step, room, joined}
use Rattle.dcx_script_values.specs.Nodes.{Operand, standing, constant, pushed, all_pushed, promoted, all_promoted, called, broadcast_called, subtracted, left_and_right, constrained}
use Rattle.dcx_script_values.specs.Kinds.{Reading, operand, nested, empty, unfit, reading, list_reading, or_unfit, vector_of}
use Rattle.dcx_script_values.specs.Operands.{operand_read, each_read, operands_read, numbers_read}
use Rattle.dcx_script_state.specs.declared.flags.Flags.{Flags}
use Rattle.dcx_script_state.specs.Declarations.{declared_shape, declare_variable, first_value, set_value, set_first, declare_parameter, give, make_problem, solve}
use Rattle.dcx_signature.specs.Table.{Row, Param}
use Rattle.dcx_signature.specs.Arguments.{Given, Bound, Matched, bound_of, param_for, matched_from, or_nothing, value_for, all_right, arguments}
use Rattle.dcx_signature.specs.Turns.{range_from, vector_items, items_through}
use Rattle.dcx_script_laws.specs.Trees.{HasNodesBelow, HaveNodesBelow}
use Rattle.dcx_script_laws.proofs.Carried.{Moves, parts}
use Rattle.dcx_script_laws.proofs.CarriedNodes.{step-moves, push-moves, pushed-moves, all_pushed-moves, promoted-moves, all_promoted-moves, left_and_right-moves, each_read-moves}
use Rattle.dcx_script_laws.proofs.CarriedNodes.{operand_read-moves, numbers_read-moves, declared_shape-moves, first_value-moves, set_value-moves, set_first-moves, all_right-moves}
use Rattle.dcx_script_laws.proofs.There.Parts.{Later, later-from, Anything, IsNode, AllBelow, OperandBelow, ReadingBelow, ConstraintBelow, AllGivenBelow, BoundBelow}
use Rattle.dcx_script_laws.proofs.There.Parts.{OptionBelow, Fine, Yields, Gives, steps, err-yields, ok-yields, push-yields, push-any, fine-same, lookup-below}
use Rattle.dcx_script_laws.proofs.There.Later.{later-same, later_is_carried}

pub ruleset growing = (
  parts,
  later-from,
  later-same,
  later_is_carried,
  step-moves,
  push-moves,
  pushed-moves,
  all_pushed-moves,
  promoted-moves,
  all_promoted-moves,
  left_and_right-moves,
  each_read-moves,
  operand_read-moves,
  numbers_read-moves,
  declared_shape-moves,
  first_value-moves,
  set_value-moves,
  set_first-moves,
)

module _ (N : ℕ) where
  -- ---- lists of values
  pub items-below : (vs : Values) → HaveNodesBelow N vs → AllBelow N (items_of vs)
  items-below end h = tt
  items-below (item v vs) h = (h.0, items-below vs h.1)

  pub values-below : (vs : List Value) → AllBelow N vs → HaveNodesBelow N (values_of vs)
  values-below [] h = tt
  values-below (v ∷ vs) h = (h.0, values-below vs h.1)

  pub both-below : (vs ws : List Value) → AllBelow N vs → AllBelow N ws → AllBelow N (vs ++ ws)
  both-below [] ws h k = k
  both-below (v ∷ vs) ws h k = (h.0, both-below vs ws h.1 k)

  -- ---- steps, room and lists
  pub step-gives : (place : Place) → Gives N (Anything N) (step place)
  step-gives place s fine = search (steps, growing, fine-same)

  pub room-gives : (place : Place) (vs : List Value) (v : Value) → Gives N (Anything N) (room place vs v)
  room-gives place vs v s fine = search (steps, growing)

  pub joined-gives : (place : Place) (xs ys : Values) → HaveNodesBelow N xs → HaveNodesBelow N ys → Gives N (HaveNodesBelow N) (joined place xs ys)
  joined-gives place xs ys h k s fine = let all = values-below (items_of xs ++ items_of ys) (both-below (items_of xs) (items_of ys) (items-below xs h) (items-below ys k)) in search (steps, growing)

  -- ---- nodes
  pub pushed-gives : (place : Place) (x : Operand) → OperandBelow N x → Gives N (IsNode N) (pushed place x)
  pushed-gives place (standing i) h s fine = search steps
  pushed-gives place (constant a) h s fine = search push-yields

  pushed-any : (place : Place) (x : Operand) → Gives N (Anything N) (pushed place x)
  pushed-any place (standing i) s fine = search steps
  pushed-any place (constant a) s fine = search push-any

  all_pushed-any : (place : Place) (xs : List Operand) → Gives N (Anything N) (all_pushed place xs)
  all_pushed-any place [] s fine = search steps
  all_pushed-any place (x ∷ xs) s fine = search (steps, pushed-any, all_pushed-any place xs, all_pushed-moves Later later_is_carried place xs, growing)

  promoted-gives : (place : Place) (to : Shape) (i : ℕ) → IsNode N i → Gives N (IsNode N) (promoted place to i)
  promoted-gives place to i h s fine = search (steps, push-yields)

  promoted-any : (place : Place) (to : Shape) (i : ℕ) → Gives N (Anything N) (promoted place to i)
  promoted-any place to i s fine = search (steps, push-any)

  all_promoted-any : (place : Place) (to : Shape) (is : List ℕ) → Gives N (Anything N) (all_promoted place to is)
  all_promoted-any place to [] s fine = search steps
  all_promoted-any place to (i ∷ is) s fine = search (steps, promoted-any, all_promoted-any place to is, all_promoted-moves Later later_is_carried place to is, growing)

  pub called-gives : (place : Place) (call : Call) (xs : List Operand) → Gives N (IsNode N) (called place call xs)
  called-gives place call xs s fine = search (steps, all_pushed-any, push-yields, growing) depth 8

  pub broadcast_called-gives : (place : Place) (call : Call) (xs : List Operand) → Gives N (IsNode N) (broadcast_called place call xs)
  broadcast_called-gives place call xs s fine = search (steps, all_pushed-any, all_promoted-any, push-yields, growing) depth 9

  pub subtracted-gives : (place : Place) (a b : Operand) → Gives N (IsNode N) (subtracted place a b)
  subtracted-gives place a b s fine = search (steps, pushed-any, push-any, all_promoted-any, push-yields, growing) depth 10

  left_and_right-gives : (place : Place) (kind : Kind) (shape : Shape) (i j : ℕ) → IsNode N i → IsNode N j → Gives N (ConstraintBelow N) (left_and_right place kind shape i j)
  left_and_right-gives place kind shape i j h k s fine = search (steps, promoted-gives, growing) depth 8

  pub constrained-gives : (place : Place) (kind : Kind) (a b : Operand) → OperandBelow N a → OperandBelow N b → Gives N (ConstraintBelow N) (constrained place kind a b)
  constrained-gives place kind a b h k s fine = search (steps, pushed-gives, left_and_right-gives, growing) depth 9

  -- ---- operands
  or_unfit-below : (o : Option Array) → ReadingBelow N (or_unfit o)
  or_unfit-below (Some a) = tt
  or_unfit-below None = tt

  list_reading-below : (vs : List Value) → ReadingBelow N (list_reading vs)
  list_reading-below [] = tt
  list_reading-below (v ∷ vs) = by _ _ (vector_of (v ∷ vs))
    where
      by : (b c : Bool) (o : Option Array) → ReadingBelow N (if b then or_unfit o else (if c then nested else unfit))
      by true c o = or_unfit-below o
      by false true o = tt
      by false false o = tt

  pub reading-below : (v : Value) → HasNodesBelow N v → ReadingBelow N (reading v)
  reading-below (plain a) h = tt
  reading-below (expression i) h = h
  reading-below (list vs) h = list_reading-below (items_of vs)
  reading-below v h = tt

  pub operand_read-gives : (place : Place) (r : Reading) → ReadingBelow N r → Gives N (OperandBelow N) (operand_read place r)
  operand_read-gives place (operand x) h s fine = search steps
  operand_read-gives place nested h s fine = search steps
  operand_read-gives place empty h s fine = search steps
  operand_read-gives place unfit h s fine = search steps

  pub operand_read-any : (place : Place) (r : Reading) → Gives N (Anything N) (operand_read place r)
  operand_read-any place (operand x) s fine = search steps
  operand_read-any place nested s fine = search steps
  operand_read-any place empty s fine = search steps
  operand_read-any place unfit s fine = search steps

  each_read-any : (place : Place) (rs : List Reading) → Gives N (Anything N) (each_read place rs)
  each_read-any place [] s fine = search steps
  each_read-any place (r ∷ rs) s fine = search (steps, operand_read-any, each_read-any place rs, each_read-moves Later later_is_carried place rs, growing)

  pub operands_read-any : (place : Place) (rs : List Reading) → Gives N (Anything N) (operands_read place rs)
  operands_read-any place rs s fine = search (steps, each_read-any, growing)

  pub numbers_read-any : (place : Place) (r : Reading) → Gives N (Anything N) (numbers_read place r)
  numbers_read-any place (operand (constant a)) s fine = search steps
  numbers_read-any place (operand (standing i)) s fine = search steps
  numbers_read-any place nested s fine = search steps
  numbers_read-any place empty s fine = search steps
  numbers_read-any place unfit s fine = search steps

  -- ---- declarations, the problem and its solves
  declared_shape-any : (place : Place) (sides : Sides) → Gives N (Anything N) (declared_shape place sides)
  declared_shape-any place sides s fine = search (steps, growing)

  pub declare_variable-gives : (place : Place) (name : List ℕ) (sides : Sides) (flags : Flags) → Gives N (HasNodesBelow N) (declare_variable place name sides flags)
  declare_variable-gives place name sides flags s fine = search (steps, declared_shape-any, push-yields, fine-same, growing) depth 9

  set_value-any : (name : List ℕ) (a : Array) → Gives N (Anything N) (set_value name a)
  set_value-any name a s fine = search (steps, fine-same)

  first_value-any : (place : Place) (value : Option Reading) → Gives N (Anything N) (first_value place value)
  first_value-any place None s fine = search steps
  first_value-any place (Some r) s fine = search (steps, numbers_read-any, growing)

  set_first-any : (name : List ℕ) (value : Option Array) → Gives N (Anything N) (set_first name value)
  set_first-any name None s fine = search steps
  set_first-any name (Some a) s fine = search set_value-any

  pub declare_parameter-gives : (place : Place) (name : List ℕ) (sides : Sides) (nonneg nonpos unoffered : Bool) (value : Option Reading)
      → Gives N (HasNodesBelow N) (declare_parameter place name sides nonneg nonpos unoffered value)
  declare_parameter-gives place name sides nonneg nonpos unoffered value s fine = search (steps, declared_shape-any, first_value-any, set_first-any, push-yields, fine-same, growing) depth 12 fits 8000

  pub give-gives : (place : Place) (v : Value) (r : Reading) → Gives N (Anything N) (give place v r)
  give-gives place v r s fine = search (steps, numbers_read-any, set_value-any, growing) depth 8

  pub make_problem-gives : (place : Place) (v : Value) (vs : List Value) → Gives N (HasNodesBelow N) (make_problem place v vs)
  make_problem-gives place v vs s fine = search (steps, fine-same, growing) depth 9

  pub solve-gives : (place : Place) → Gives N (HasNodesBelow N) (solve place)
  solve-gives place s fine = search (steps, fine-same, growing) depth 8

  -- ---- arguments
  all_right-any : (x : Option Sides) (ms : List Matched) → Gives N (Anything N) (all_right x ms)
  all_right-any x [] s fine = search steps
  all_right-any x (m ∷ ms) s fine = search (steps, all_right-any x ms, all_right-moves Later later_is_carried x ms, growing)

  matched-below : (row : Row) (gs : List Given) (position : ℕ) (named : Bool) (before : List (List ℕ)) → AllGivenBelow N gs → BoundBelow N (bound_of (matched_from row position named before gs))
  matched-below row [] position named before h = tt
  matched-below row (g ∷ gs) position named before h = by (param_for row position named before g.word) (matched_from row _ _ _ gs) (matched-below row gs _ _ _ h.1)
    where
      by : (o : Option Param) (rest : List Matched) → BoundBelow N (bound_of rest) → BoundBelow N (bound_of ((g, o) ∷ rest))
      by (Some p) rest all = (h.0, all)
      by None rest all = all

  pub arguments-gives : (nodes : List (Node Call)) (place : Place) (row : Row) (gs : List Given) → AllGivenBelow N gs → Gives N (BoundBelow N) (arguments nodes place row gs)
  arguments-gives nodes place row gs h s fine = let all = matched-below row gs 0 false [] h in search (steps, all_right-any, growing) depth 8

  pub or_nothing-below : (o : Option Value) → OptionBelow N o → HasNodesBelow N (or_nothing o)
  or_nothing-below None h = tt
  or_nothing-below (Some v) h = h

  pub value_for-below : (word : List ℕ) (bound : Bound) → BoundBelow N bound → HasNodesBelow N (value_for word bound)
  value_for-below word bound h = or_nothing-below (lookup (same_name word) bound) (lookup-below N (same_name word) bound h)

  -- ---- what there is to go through
  pub range_from-gives : (place : Place) (first stop by : ℤ) → Gives N (HasNodesBelow N) (range_from place first stop by)
  range_from-gives place first stop by s fine = search (steps, growing)

  plain-below : {X : Type 0} (f : X → Array) (xs : List X) → AllBelow N (map (λ x. plain (f x)) xs)
  plain-below f [] = tt
  plain-below f (x ∷ xs) = (tt, plain-below f xs)

  vector_items-gives : (place : Place) (a : Array) (sides : Sides) → Gives N (AllBelow N) (vector_items place a sides)
  vector_items-gives place a Scalar s fine = search steps
  vector_items-gives place a (Vector n) s fine = ok-yields N (AllBelow N) _ s fine (plain-below number a.entries)
  vector_items-gives place a (Matrix m n) s fine = search steps

  pub items_through-gives : (place : Place) (v : Value) → HasNodesBelow N v → Gives N (AllBelow N) (items_through place v)
  items_through-gives place (plain a) h s fine = vector_items-gives place a (sides_of a.shape) s fine
  items_through-gives place (list vs) h s fine = ok-yields N (AllBelow N) _ s fine (items-below vs h)
  items_through-gives place (range first by n) h s fine = ok-yields N (AllBelow N) _ s fine (plain-below _ (places_below n))
  items_through-gives place v h s fine = search steps
