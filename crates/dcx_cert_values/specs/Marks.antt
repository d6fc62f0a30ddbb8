-- Marks for the nodes whose values are to be formed.
use Rattle.std.specs.Prelude.{◌≡◌, ℕ, ◌<◌, ◌≤◌, ◌⊎◌, true, Bool, List, [], ◌∷◌, Option, Some, IsSome}
use Rattle.dcx_atom.specs.declared.array.Array.{Array}
use Rattle.dcx_arena.specs.Nodes.{args_at}
use Rattle.dcx_arena.specs.Gather.{has}
use Rattle.dcx_arena.specs.Unfold.{IsReached}
use Rattle.dcx_tree.specs.Nodes.{Node}
use Rattle.dcx_tree.specs.Values.{IsMarked, array_at}
use Rattle.dcx_cert_values.specs.Forming.{divisor_in}

-- each mark stands from low on, and before the end
abbrev pub AreWithin : List Bool → (low end : ℕ) → Type 0
AreWithin marks low end = (i : ℕ) → IsMarked marks i → (low ≤ i) × (i < end)

-- an argument of a marked node is marked or kept
abbrev pub AreClosed : List Node → List (Option Array) → List Bool → Type 0
AreClosed nodes arrays marks = (i a : ℕ) → IsMarked marks i → has (args_at nodes i) a ≡ true → IsMarked marks a ⊎ IsSome (array_at arrays a)

-- a marked node reaches node j
pub record LiesBelow (nodes : List Node) (marks : List Bool) (j : ℕ) : Type 0 where
  pub mark : ℕ
  pub marked : IsMarked marks mark
  pub reached : IsReached nodes (mark ∷ []) j

-- besides the marks before, nodes that these reach are marked, and what isn't marked of the arguments is kept
pub record AreWanted (nodes : List Node) (arrays : List (Option Array)) (before after : List Bool) : Type 0 where
  pub starts : (j : ℕ) → IsMarked before j → IsMarked after j
  pub sound : (j : ℕ) → IsMarked after j → LiesBelow nodes before j
  pub closed : AreClosed nodes arrays after

-- the marks are those of nodes that the roots reach; a root and an argument of a marked node is marked or kept
pub record AreMarkedFrom (nodes : List Node) (arrays : List (Option Array)) (roots : List ℕ) (marks : List Bool) : Type 0 where
  pub starts : (j : ℕ) → has roots j ≡ true → IsMarked marks j ⊎ IsSome (array_at arrays j)
  pub sound : (j : ℕ) → IsMarked marks j → IsReached nodes roots j
  pub closed : AreClosed nodes arrays marks

-- node d is the divisor of some quotient
abbrev pub IsDivisor : List Node → ℕ → Type 0
IsDivisor nodes d = (i : ℕ) × (divisor_in nodes i ≡ Some d)
