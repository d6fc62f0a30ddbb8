-- Values of nodes that are kept in a table with a place for each node.
use Rattle.std.specs.Prelude.{◌≡◌, ℕ, ◌<◌, true, false, Bool, List, length, Option, Some, None, IsSome}
use Rattle.dcx_atom.specs.declared.array.Array.{Array}
use Rattle.dcx_point.specs.Pairs.{Pairs}
use Rattle.dcx_arena.specs.Nodes.{args_at}
use Rattle.dcx_arena.specs.Gather.{has}
use Rattle.dcx_arena.specs.Unfold.{IsReached}
use Rattle.dcx_tree.specs.declared.problem.Problem.{Problem}
use Rattle.dcx_tree.specs.Values.{array_at, AreValues, IsMarked}
use Rattle.dcx_cert_values.specs.Forming.{IsFixedNode}

-- each array that is kept is the value of its node at this setting and point, and those of its arguments are kept
pub record AreKeptValues (p : Problem) (setting point : Pairs) (arrays : List (Option Array)) : Type 0 where
  pub sized : length arrays ≡ length p.tree
  pub values : AreValues p.tree setting point arrays
  pub closed : (i a : ℕ) → IsSome (array_at arrays i) → has (args_at p.tree i) a ≡ true → IsSome (array_at arrays a)

-- what is kept before is kept after
abbrev pub StaysKept : (before after : List (Option Array)) → Type 0
StaysKept before after = (i : ℕ) (v : Array) → array_at before i ≡ Some v → array_at after i ≡ Some v

-- the value of each node that these roots reach is kept
abbrev pub AreKeptBelow : Problem → List ℕ → List (Option Array) → Type 0
AreKeptBelow p roots arrays = (i : ℕ) → IsReached p.tree roots i → IsSome (array_at arrays i)

-- the value of each marked node is kept
abbrev pub AreKeptWhere : List Bool → List (Option Array) → Type 0
AreKeptWhere marks arrays = (i : ℕ) → IsMarked marks i → IsSome (array_at arrays i)

-- the value of each node that reaches no variable is kept
abbrev pub AreKeptFixed : Problem → List (Option Array) → Type 0
AreKeptFixed p arrays = (i : ℕ) → i < length p.tree → IsFixedNode p i → IsSome (array_at arrays i)

-- nothing is kept but values of nodes that reach no variable
abbrev pub AreOnlyFixed : Problem → List (Option Array) → Type 0
AreOnlyFixed p arrays = (i : ℕ) → IsSome (array_at arrays i) → IsFixedNode p i

-- a value where it is wanted
abbrev pub kept_if : Bool → Option Array → Option Array
kept_if true value = value
kept_if false value = None
