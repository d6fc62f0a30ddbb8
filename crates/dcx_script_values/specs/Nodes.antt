-- How nodes come to the tree: operands, constants, promotions and calls, and the order in which they come.
use Rattle.std.specs.Prelude.{ℕ, ◌+◌, nat_le, nat_lt, nat_eq, Bool, ◌&&◌, if◌then◌else◌, List, [], ◌∷◌, ◌++◌, map, length, Option, Some, None, option_and_then}
use Rattle.std.specs.Cmp.Lexicographic.{pointwise}
use Rattle.std.specs.List.{list_all, position_from}
use Rattle.dcx_shape.specs.declared.shape.Sides.{Sides}
use Rattle.dcx_shape.specs.declared.shape.Shape.{Shape}
use Rattle.dcx_shape.specs.declared.place.Place.{Place}
use Rattle.dcx_shape.specs.Shape.{sides_of}
use Rattle.dcx_shape.specs.Sides.{entries_of}
use Rattle.dcx_atom.specs.declared.array.Array.{Array}
use Rattle.dcx_affine.specs.Places.{same_sides}
use Rattle.dcx_arena.specs.declared.fault.Count.TheVariants.{Nodes, Entries}
use Rattle.dcx_arena.specs.Nodes.{Node, most, sides_at, entries_in}
use Rattle.dcx_call.specs.declared.call.Call.{Call}
use Rattle.dcx_call.specs.declared.call.Call.TheVariants as calls
use Rattle.dcx_call.specs.declared.linears.LinearCall.TheVariants as linears
use Rattle.dcx_call.specs.Calls.{shape_of}
use Rattle.dcx_script_values.specs.declared.fault.ElabFault.TheVariants.{BadArgument, ShapeClash}
use Rattle.dcx_tree.specs.declared.constraint.Kind.{Kind}
use Rattle.dcx_tree.specs.declared.constraint.Constraint.{Constraint}
use Rattle.dcx_script_values.specs.Values.{Act, ◌>>=◌, ◌>>◌, done, or_fault, unless, read, write, too_many}
use Rattle.dcx_array.specs.Shapes.{shape_with, common_of}
use Rattle.dcx_script_values.specs.Same.{same_call}

-- ---- one node
abbrev pub is_of : Call → List ℕ → Node Call → Bool
is_of call args n = same_call n.call call && pointwise nat_eq n.args args

-- one node more, the last; where both limits are passed, that of nodes is named
abbrev pub add : Place → Node Call → Act ℕ
add place n = do
  nodes ← read (λ s. s.nodes)
  unless (too_many place Nodes (length nodes + 1)) (nat_le (length nodes + 1) most)
  unless (too_many place Entries (entries_in nodes + entries_of n.sides)) (nat_le (entries_in nodes + entries_of n.sides) most)
  write (λ s. record s { nodes = nodes ++ n ∷ [] })
  done (length nodes)

abbrev pub found_or_added : Place → Node Call → Option ℕ → Act ℕ
found_or_added place n (Some i) = done i
found_or_added place n None = add place n

-- the sides of a node
abbrev pub sides_of_node : ℕ → Act Sides
sides_of_node i = read (λ s. sides_at s.nodes i)

-- the sides that a call gives to arguments with these sides
abbrev pub given_sides : Place → Call → List Sides → Act Sides
given_sides place call args = or_fault (ShapeClash place) (shape_of call args)

-- each of these is a node
abbrev pub are_there : List (Node Call) → List ℕ → Bool
are_there nodes args = list_all (λ a. nat_lt a (length nodes)) args

-- the node of this call and these arguments: the one that is there, which keeps its place, or one more
abbrev pub push : Place → Call → List ℕ → Act ℕ
push place call args = do
  before ← read (λ s. s.nodes)
  unless (BadArgument place) (are_there before args)
  sides ← given_sides place call (map (sides_at before) args)
  found_or_added place (record { call = call; args = args; sides = sides; place = place }) (position_from (is_of call args) 0 before)

-- ---- operands
-- what a call takes: a node, or numbers that become a constant
pub data Operand : Type 0 where
  standing : ℕ → Operand
  constant : Array → Operand

abbrev pub operand_sides : List (Node Call) → Operand → Sides
operand_sides nodes (standing i) = sides_at nodes i
operand_sides nodes (constant a) = sides_of a.shape

abbrev pub all_sides : List Operand → Act (List Sides)
all_sides xs = read (λ s. map (operand_sides s.nodes) xs)

abbrev pub pushed : Place → Operand → Act ℕ
pushed place (standing i) = done i
pushed place (constant a) = push place (calls.Constant a) []

-- the nodes of operands: their constants in order
abbrev pub all_pushed : Place → List Operand → Act (List ℕ)
all_pushed place [] = done []
all_pushed place (x ∷ xs) = do
  i ← pushed place x
  is ← all_pushed place xs
  done (i ∷ is)

-- ---- promotions
-- a node with the sides of a shape: itself where it has them, else its promotion
abbrev pub promoted : Place → Shape → ℕ → Act ℕ
promoted place to i = do
  sides ← sides_of_node i
  if same_sides sides (sides_of to) then done i else push place (calls.Linear (linears.Promote (record { to = to }))) (i ∷ [])

abbrev pub all_promoted : Place → Shape → List ℕ → Act (List ℕ)
all_promoted place to [] = done []
all_promoted place to (i ∷ is) = do
  j ← promoted place to i
  js ← all_promoted place to is
  done (j ∷ js)

-- the shape that operands broadcast to, where an expression may have so many entries
abbrev pub common_shape : Place → List Operand → Act Shape
common_shape place xs = do
  sides ← all_sides xs
  or_fault (ShapeClash place) (option_and_then shape_with (common_of sides))

-- ---- calls: shapes are tested before anything comes to the tree, then come the constants in order, then the promotions
-- in order, then the call
abbrev pub called : Place → Call → List Operand → Act ℕ
called place call xs = do
  sides ← all_sides xs
  result ← given_sides place call sides
  is ← all_pushed place xs
  push place call is

abbrev pub broadcast_called : Place → Call → List Operand → Act ℕ
broadcast_called place call xs = do
  shape ← common_shape place xs
  is ← all_pushed place xs
  js ← all_promoted place shape is
  push place call js

-- `a - b` is `a + (-b)`; its promotions come after the negation
abbrev pub subtracted : Place → Operand → Operand → Act ℕ
subtracted place a b = do
  shape ← common_shape place (a ∷ b ∷ [])
  i ← pushed place a
  j ← pushed place b
  m ← push place (calls.Linear (linears.Minus (record {}))) (j ∷ [])
  js ← all_promoted place shape (i ∷ m ∷ [])
  push place (calls.Linear (linears.Plus (record {}))) js

-- a constraint between two operands, the left one first
abbrev pub left_and_right : Place → Kind → Shape → ℕ → ℕ → Act Constraint
left_and_right place kind shape i j = do
  left ← promoted place shape i
  right ← promoted place shape j
  done (record { kind = kind; left = record { 0 = left }; right = record { 0 = right }; shape = shape; place = place })

abbrev pub constrained : Place → Kind → Operand → Operand → Act Constraint
constrained place kind a b = do
  shape ← common_shape place (a ∷ b ∷ [])
  i ← pushed place a
  j ← pushed place b
  left_and_right place kind shape i j
