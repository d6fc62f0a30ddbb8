-- The problem of roots in a tree: the part that they reach, and what is declared of it.
use Rattle.std.specs.Prelude.{◌≡◌, ℕ, Bool, true, false, List, map, filter}
use Rattle.std.specs.List.{list_any, IsDistinct}
use Rattle.dcx_shape.specs.declared.shape.Shape.{Shape}
use Rattle.dcx_shape.specs.declared.place.Place.{Place}
use Rattle.dcx_point.specs.Pairs.{same_name}
use Rattle.dcx_arena.specs.Nodes.{IsNode}
use Rattle.dcx_arena.specs.Gather.{has, order_of, IsGathered}
use Rattle.dcx_call.specs.declared.call.Call.{Call}
use Rattle.dcx_call.specs.Attributes.{AreSquare}
use Rattle.dcx_call.specs.declared.call.Call.TheVariants as calls
use Rattle.dcx_tree.specs.declared.constraint.Kind.{Kind}
use Rattle.dcx_tree.specs.declared.constraint.Constraint.{Constraint}
use Rattle.dcx_tree.specs.declared.problem.Problem.{Problem}
use Rattle.dcx_tree.specs.declared.roots.Roots.{Roots}
use Rattle.dcx_tree.specs.Nodes.{Names, Node}
use Rattle.dcx_tree.specs.Problems.{IsListed, declared_names, roots_of}

-- the positions at which a problem is to begin
abbrev pub positions_of : Roots → List ℕ
positions_of roots = roots_of roots.objective roots.constraints

-- the declared names
abbrev pub declared_in : Roots → Names
declared_in roots = record { variables = map (λ v. v.name) roots.variables; parameters = map (λ q. q.name) roots.parameters }

-- each variable and each parameter that the roots reach is declared with all its fields, no name is declared twice, and symmetric and
-- diagonal variables are square
pub record AreDeclarations (source : List Node) (roots : Roots) : Type 0 where
  pub reached : (i : ℕ) (n : Node) → has (order_of source (positions_of roots)) i ≡ true → IsNode source i n → IsListed roots.variables roots.parameters n.call
  pub distinct : IsDistinct same_name (declared_names roots.variables roots.parameters)
  pub squares : AreSquare roots.variables

-- the call is a variable of this name
abbrev pub is_variable : List ℕ → Call → Bool
is_variable name (calls.Variable v) = same_name name v.name
is_variable name (calls.Parameter p) = false
is_variable name (calls.Constant x) = false
is_variable name (calls.Atom m) = false
is_variable name (calls.Linear l) = false
is_variable name (calls.Pairing p) = false

-- the call is a parameter of this name
abbrev pub is_parameter : List ℕ → Call → Bool
is_parameter name (calls.Variable v) = false
is_parameter name (calls.Parameter p) = same_name name p.name
is_parameter name (calls.Constant x) = false
is_parameter name (calls.Atom m) = false
is_parameter name (calls.Linear l) = false
is_parameter name (calls.Pairing p) = false

-- some node is the variable, or the parameter, of this name
abbrev pub has_variable : List Node → List ℕ → Bool
has_variable nodes name = list_any (λ n. is_variable name n.call) nodes

abbrev pub has_parameter : List Node → List ℕ → Bool
has_parameter nodes name = list_any (λ n. is_parameter name n.call) nodes

-- what a constraint asks, whatever its sides are called
pub record Demand : Type 0 where
  pub kind : Kind
  pub shape : Shape
  pub place : Place

abbrev pub demand_of : Constraint → Demand
demand_of c = record { kind = c.kind; shape = c.shape; place = c.place }

-- the problem of these roots: the nodes that they reach, numbered as they are first finished, with what is declared of them
pub record IsProblemOf (source : List Node) (roots : Roots) (p : Problem) : Type 0 where
  pub nodes : IsGathered source (positions_of roots) p.tree (roots_of p.objective p.constraints)
  pub sense : p.sense ≡ roots.sense
  pub objective_place : p.objective_place ≡ roots.objective_place
  pub demands : map demand_of p.constraints ≡ map demand_of roots.constraints
  pub variables : p.variables ≡ filter (λ v. has_variable p.tree v.name) roots.variables
  pub parameters : p.parameters ≡ filter (λ q. has_parameter p.tree q.name) roots.parameters
