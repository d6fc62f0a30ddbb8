-- What a problem keeps.
use Rattle.std.specs.Prelude.{◌≡◌, ℕ, ◌<◌, ◌^◌, ◌++◌, List, [], ◌∷◌, length, map, Some, slice_get}
use Rattle.std.specs.List.{All, Contains, IsDistinct, flat_map, range_with_len}
use Rattle.dcx_shape.specs.Shape.{sides_of}
use Rattle.dcx_shape.specs.Sides.{entries_of}
use Rattle.dcx_shape.specs.declared.shape.Sides.{Sides}
use Rattle.dcx_point.specs.Pairs.{same_name}
use Rattle.dcx_arena.specs.declared.node.NodeId.{NodeId}
use Rattle.dcx_arena.specs.Nodes.{IsNode, call_at, sides_at}
use Rattle.dcx_arena.specs.Gather.{order_of}
use Rattle.dcx_call.specs.declared.attribute.Variable.{Variable}
use Rattle.dcx_call.specs.declared.attribute.Parameter.{Parameter}
use Rattle.dcx_call.specs.declared.call.Call.{Call}
use Rattle.dcx_call.specs.declared.call.Call.TheVariants as calls
use Rattle.dcx_tree.specs.declared.constraint.Constraint.{Constraint}
use Rattle.dcx_tree.specs.Nodes.{Node}

-- the objective is a node, and has one entry
pub record IsObjective (nodes : List Node) (id : NodeId) : Type 0 where
  pub there : id.0 < length nodes
  pub one_entry : entries_of (sides_at nodes id.0) ≡ 1

-- the id is that of a node with these sides
pub record HasSides (nodes : List Node) (id : NodeId) (sides : Sides) : Type 0 where
  pub there : id.0 < length nodes
  pub same : sides_at nodes id.0 ≡ sides

-- both sides of a constraint are nodes, and have its shape
pub record IsConstraint (nodes : List Node) (c : Constraint) : Type 0 where
  pub left : HasSides nodes c.left (sides_of c.shape)
  pub right : HasSides nodes c.right (sides_of c.shape)

-- both sides of each constraint are nodes, and have its shape
pub record AreConstraints (nodes : List Node) (constraints : List Constraint) : Type 0 where
  pub left : (k : ℕ) (c : Constraint) → slice_get constraints k ≡ Some c → HasSides nodes c.left (sides_of c.shape)
  pub right : (k : ℕ) (c : Constraint) → slice_get constraints k ≡ Some c → HasSides nodes c.right (sides_of c.shape)
  pub few : length constraints < 2 ^ 32

-- a variable or a parameter is listed with all its fields
abbrev pub IsListed : List Variable → List Parameter → Call → Type 0
IsListed variables parameters (calls.Variable v) = Contains variables v
IsListed variables parameters (calls.Parameter p) = Contains parameters p
IsListed variables parameters (calls.Constant x) = Unit {0}
IsListed variables parameters (calls.Atom m) = Unit {0}
IsListed variables parameters (calls.Linear l) = Unit {0}
IsListed variables parameters (calls.Pairing p) = Unit {0}

-- some node has this call
abbrev pub HasCall : List Node → Call → Type 0
HasCall nodes call = (i : ℕ) × (call_at nodes i ≡ Some call)

-- the names of all that is declared
abbrev pub declared_names : List Variable → List Parameter → List (List ℕ)
declared_names variables parameters = map (λ v. v.name) variables ++ map (λ p. p.name) parameters

-- each variable and each parameter of the tree is listed, each that is listed has a node, and no name is listed twice
pub record AreDeclared (nodes : List Node) (variables : List Variable) (parameters : List Parameter) : Type 0 where
  pub listed : (i : ℕ) (n : Node) → IsNode nodes i n → IsListed variables parameters n.call
  pub variables_stand : All (λ v. HasCall nodes (calls.Variable v)) variables
  pub parameters_stand : All (λ p. HasCall nodes (calls.Parameter p)) parameters
  pub distinct : IsDistinct same_name (declared_names variables parameters)

-- the left and the right side of each constraint
abbrev pub sides_in : List Constraint → List ℕ
sides_in constraints = flat_map (λ c. c.left.0 ∷ c.right.0 ∷ []) constraints

-- where a problem begins: the objective, then the left and the right side of each constraint
abbrev pub roots_of : NodeId → List Constraint → List ℕ
roots_of objective constraints = objective.0 ∷ sides_in constraints

-- each node is reached, and nodes are numbered in the order in which they are first finished
abbrev pub IsNumbered : List Node → NodeId → List Constraint → Type 0
IsNumbered nodes objective constraints = order_of nodes (roots_of objective constraints) ≡ range_with_len 0 (length nodes)
