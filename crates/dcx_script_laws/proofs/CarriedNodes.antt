-- Nodes, declarations and arguments keep what is carried.
use Rattle.std.proofs.Common.{◌≡◌, ℕ, ℤ, Bool, List, [], ◌∷◌, Option, Some, None}
use Rattle.dcx_shape.specs.declared.shape.Sides.{Sides}
use Rattle.dcx_shape.specs.declared.shape.Sides.TheVariants.{Scalar, Vector, Matrix}
use Rattle.dcx_shape.specs.declared.shape.Shape.{Shape}
use Rattle.dcx_shape.specs.declared.place.Place.{Place}
use Rattle.dcx_atom.specs.declared.array.Array.{Array}
use Rattle.dcx_arena.specs.Nodes.{Node}
use Rattle.dcx_call.specs.declared.call.Call.{Call}
use Rattle.dcx_tree.specs.declared.constraint.Kind.{Kind}
use Rattle.dcx_script_values.specs.Values.{Value, Values, State, step, room, joined, plain}
use Rattle.dcx_script_values.specs.Nodes.{Operand, standing, constant, push, pushed, all_pushed, promoted, all_promoted}
use Rattle.dcx_script_values.specs.Nodes.{common_shape, called, broadcast_called, subtracted, left_and_right, constrained}
use Rattle.dcx_script_values.specs.Kinds.{Reading, operand, nested, empty, unfit}
use Rattle.dcx_script_values.specs.Operands.{operand_read, each_read, operands_read, numbers_read}
use Rattle.dcx_script_state.specs.declared.flags.Flags.{Flags}
use Rattle.dcx_script_state.specs.Declarations.{declared_shape, declare_variable, first_value, set_value, set_first, declare_parameter, give, make_problem, solve}
use Rattle.dcx_signature.specs.Table.{Row}
use Rattle.dcx_signature.specs.Arguments.{Given, Matched, all_right, arguments}
use Rattle.dcx_signature.specs.Turns.{range_from, vector_items, items_through}
use Rattle.dcx_script_laws.proofs.Carried.{Moves, IsCarried, parts}

module _ (R : State → State → Type 0) (carried : IsCarried R) where
  -- ---- what changes neither names nor nodes
  pub others-carried : (s t u : State) → R s t → u.names ≡ t.names → u.nodes ≡ t.nodes → R s u
  others-carried = carried.others

  pub step-moves : (place : Place) → Moves R (step place)
  step-moves place s t h = search (parts, others-carried)

  pub room-moves : (place : Place) (vs : List Value) (v : Value) → Moves R (room place vs v)
  room-moves place vs v s t h = search parts

  pub joined-moves : (place : Place) (xs ys : Values) → Moves R (joined place xs ys)
  joined-moves place xs ys s t h = search parts

  -- ---- nodes
  pub push-moves : (place : Place) (call : Call) (args : List ℕ) → Moves R (push place call args)
  push-moves = carried.pushes

  pub pushed-moves : (place : Place) (x : Operand) → Moves R (pushed place x)
  pushed-moves place (standing i) s t h = search parts
  pushed-moves place (constant a) s t h = search push-moves

  pub all_pushed-moves : (place : Place) (xs : List Operand) → Moves R (all_pushed place xs)
  all_pushed-moves place [] s t h = search parts
  all_pushed-moves place (x ∷ xs) s t h = search (pushed-moves, all_pushed-moves place xs, parts)

  pub promoted-moves : (place : Place) (to : Shape) (i : ℕ) → Moves R (promoted place to i)
  promoted-moves place to i s t h = search (push-moves, parts)

  pub all_promoted-moves : (place : Place) (to : Shape) (is : List ℕ) → Moves R (all_promoted place to is)
  all_promoted-moves place to [] s t h = search parts
  all_promoted-moves place to (i ∷ is) s t h = search (promoted-moves, all_promoted-moves place to is, parts)

  pub common_shape-moves : (place : Place) (xs : List Operand) → Moves R (common_shape place xs)
  common_shape-moves place xs s t h = search parts

  pub called-moves : (place : Place) (call : Call) (xs : List Operand) → Moves R (called place call xs)
  called-moves place call xs s t h = search (push-moves, all_pushed-moves, parts)

  pub broadcast_called-moves : (place : Place) (call : Call) (xs : List Operand) → Moves R (broadcast_called place call xs)
  broadcast_called-moves place call xs s t h = search (push-moves, common_shape-moves, all_pushed-moves, all_promoted-moves, parts) depth 6

  pub subtracted-moves : (place : Place) (a b : Operand) → Moves R (subtracted place a b)
  subtracted-moves place a b s t h = search (push-moves, common_shape-moves, pushed-moves, all_promoted-moves, parts) depth 8

  pub left_and_right-moves : (place : Place) (kind : Kind) (shape : Shape) (i j : ℕ) → Moves R (left_and_right place kind shape i j)
  left_and_right-moves place kind shape i j s t h = search (promoted-moves, parts)

  pub constrained-moves : (place : Place) (kind : Kind) (a b : Operand) → Moves R (constrained place kind a b)
  constrained-moves place kind a b s t h = search (common_shape-moves, pushed-moves, left_and_right-moves, parts) depth 6

  -- ---- operands
  pub operand_read-moves : (place : Place) (r : Reading) → Moves R (operand_read place r)
  operand_read-moves place (operand x) s t h = search parts
  operand_read-moves place nested s t h = search parts
  operand_read-moves place empty s t h = search parts
  operand_read-moves place unfit s t h = search parts

  pub each_read-moves : (place : Place) (rs : List Reading) → Moves R (each_read place rs)
  each_read-moves place [] s t h = search parts
  each_read-moves place (r ∷ rs) s t h = search (operand_read-moves, each_read-moves place rs, parts)

  pub operands_read-moves : (place : Place) (rs : List Reading) → Moves R (operands_read place rs)
  operands_read-moves place rs s t h = search (each_read-moves, parts)

  pub numbers_read-moves : (place : Place) (r : Reading) → Moves R (numbers_read place r)
  numbers_read-moves place (operand (constant a)) s t h = search parts
  numbers_read-moves place (operand (standing i)) s t h = search parts
  numbers_read-moves place nested s t h = search parts
  numbers_read-moves place empty s t h = search parts
  numbers_read-moves place unfit s t h = search parts

  -- ---- declarations, the problem and its solves
  pub declared_shape-moves : (place : Place) (sides : Sides) → Moves R (declared_shape place sides)
  declared_shape-moves place sides s t h = search parts

  pub declare_variable-moves : (place : Place) (name : List ℕ) (sides : Sides) (flags : Flags) → Moves R (declare_variable place name sides flags)
  declare_variable-moves place name sides flags s t h = search (push-moves, declared_shape-moves, others-carried, parts) depth 8

  pub set_value-moves : (name : List ℕ) (a : Array) → Moves R (set_value name a)
  set_value-moves name a s t h = search (parts, others-carried)

  pub first_value-moves : (place : Place) (value : Option Reading) → Moves R (first_value place value)
  first_value-moves place None s t h = search parts
  first_value-moves place (Some r) s t h = search (numbers_read-moves, parts)

  pub set_first-moves : (name : List ℕ) (value : Option Array) → Moves R (set_first name value)
  set_first-moves name None s t h = search parts
  set_first-moves name (Some a) s t h = search set_value-moves

  pub declare_parameter-moves : (place : Place) (name : List ℕ) (sides : Sides) (nonneg nonpos unoffered : Bool) (value : Option Reading)
      → Moves R (declare_parameter place name sides nonneg nonpos unoffered value)
  declare_parameter-moves place name sides nonneg nonpos unoffered value s t h = search (push-moves, declared_shape-moves, first_value-moves, set_first-moves, others-carried, parts) depth 10

  pub give-moves : (place : Place) (v : Value) (r : Reading) → Moves R (give place v r)
  give-moves place v r s t h = search (numbers_read-moves, set_value-moves, parts)

  pub make_problem-moves : (place : Place) (v : Value) (vs : List Value) → Moves R (make_problem place v vs)
  make_problem-moves place v vs s t h = search (others-carried, parts) depth 8

  pub solve-moves : (place : Place) → Moves R (solve place)
  solve-moves place s t h = search (others-carried, parts)

  -- ---- arguments, and what there is to go through
  pub all_right-moves : (x : Option Sides) (ms : List Matched) → Moves R (all_right x ms)
  all_right-moves x [] s t h = search parts
  all_right-moves x (m ∷ ms) s t h = search (all_right-moves x ms, parts)

  pub arguments-moves : (nodes : List (Node Call)) (place : Place) (row : Row) (gs : List Given) → Moves R (arguments nodes place row gs)
  arguments-moves nodes place row gs s t h = search (all_right-moves, parts)

  pub range_from-moves : (place : Place) (first stop by : ℤ) → Moves R (range_from place first stop by)
  range_from-moves place first stop by s t h = search parts

  pub vector_items-moves : (place : Place) (a : Array) (sides : Sides) → Moves R (vector_items place a sides)
  vector_items-moves place a Scalar s t h = search parts
  vector_items-moves place a (Vector n) s t h = search parts
  vector_items-moves place a (Matrix m n) s t h = search parts

  pub items_through-moves : (place : Place) (v : Value) → Moves R (items_through place v)
  items_through-moves place (plain a) s t h = search vector_items-moves
  items_through-moves place v s t h = search parts
