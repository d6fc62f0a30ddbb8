-- Where a declared name stands in a script: at the node of the variable or the parameter that has it.
use Rattle.std.specs.Prelude.{◌≡◌, ℕ, ◌<◌, ◌⊎◌, List, Option, Some, None, slice_get}
use Rattle.dcx_shape.specs.declared.place.Place.{Place}
use Rattle.dcx_arena.specs.Nodes.{call_at, place_at}
use Rattle.dcx_call.specs.declared.attribute.Parameter.{Parameter}
use Rattle.dcx_call.specs.declared.attribute.Variable.{Variable}
use Rattle.dcx_call.specs.declared.call.Call.{Call}
use Rattle.dcx_call.specs.declared.call.Call.TheVariants as calls
use Rattle.dcx_tree.specs.declared.problem.Problem.{Problem}
use Rattle.dcx_tree.specs.Nodes.{Node}

-- the name that a call declares
abbrev pub name_of : Call → Option (List ℕ)
name_of (calls.Variable v) = Some v.name
name_of (calls.Parameter q) = Some q.name
name_of (calls.Constant x) = None
name_of (calls.Atom m) = None
name_of (calls.Linear l) = None
name_of (calls.Pairing p) = None

-- node i declares the name
pub record IsNamedAt (nodes : List Node) (name : List ℕ) (i : ℕ) : Type 0 where
  pub call : Call
  pub there : call_at nodes i ≡ Some call
  pub named : name_of call ≡ Some name

abbrev pub LacksName : List Node → List ℕ → Type 0
LacksName nodes name = (i : ℕ) → ¬ IsNamedAt nodes name i

-- it is the first one
pub record IsFirstNamed (nodes : List Node) (name : List ℕ) (i : ℕ) : Type 0 where
  pub is : IsNamedAt nodes name i
  pub before : (j : ℕ) → j < i → ¬ IsNamedAt nodes name j

-- ---- the names of a problem
-- the name stands at this place in the script of the problem
pub record StandsAt (p : Problem) (name : List ℕ) (place : Place) : Type 0 where
  pub node : ℕ
  pub first : IsFirstNamed p.tree name node
  pub stands : place_at p.tree node ≡ Some place

-- a variable of the problem has this name
abbrev pub HasVariable : Problem → List ℕ → Type 0
HasVariable p name = (k : ℕ) × (v : Variable) × (slice_get p.variables k ≡ Some v) × (v.name ≡ name)

-- a parameter has it
abbrev pub HasParameter : Problem → List ℕ → Type 0
HasParameter p name = (k : ℕ) × (q : Parameter) × (slice_get p.parameters k ≡ Some q) × (q.name ≡ name)

-- the problem declares it
abbrev pub HasName : Problem → List ℕ → Type 0
HasName p name = HasVariable p name ⊎ HasParameter p name
