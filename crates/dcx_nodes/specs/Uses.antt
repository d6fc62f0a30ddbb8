-- Where what stands for a node is asked for, and what is given back behind the last use.
use Rattle.std.specs.Prelude.{◌≡◌, ◌≢◌, ℕ, ◌≤◌, ◌⊎◌, List, [], length, Some, slice_get, slice_index}
use Rattle.std.specs.List.{All, Contains}
use Rattle.dcx_arena.specs.Nodes.{args_at}
use Rattle.dcx_tree.specs.declared.problem.Problem.{Problem}
use Rattle.dcx_tree.specs.Problems.{roots_of}
use Rattle.dcx_entries.specs.declared.standing.Standing.{Standing}
use Rattle.dcx_entries.specs.declared.standing.Standing.TheVariants.{Forms}

-- node a is asked for at place i: node i takes it, or the problem begins with it, which asks for it behind all nodes
abbrev pub IsUse : Problem → ℕ → ℕ → Type 0
IsUse p a i = Contains (args_at p.tree i) a ⊎ ((i ≡ length p.tree) × Contains (roots_of p.objective p.constraints) a)

-- node a is asked for at place k or behind it
abbrev pub IsUsedFrom : Problem → ℕ → ℕ → Type 0
IsUsedFrom p k a = (i : ℕ) × (k ≤ i) × IsUse p a i

-- where each node is last asked for, and 0 where it never is
pub record AreLastUses (p : Problem) (uses : List ℕ) : Type 0 where
  pub counted : length uses ≡ length p.tree
  pub last : (a i : ℕ) → IsUse p a i → i ≤ slice_index uses a
  pub used : (a : ℕ) → (slice_index uses a ≡ 0) ⊎ IsUse p a (slice_index uses a)

-- a number is put at these places of a list, and each other place has what it had
pub record IsPut (places : List ℕ) (number : ℕ) (before after : List ℕ) : Type 0 where
  pub counted : length after ≡ length before
  pub put : (a : ℕ) → Contains places a → slice_index after a ≡ number
  pub others : (a : ℕ) → Contains places a ⊎ (slice_index after a ≡ slice_index before a)

-- what stands for those of these nodes that are last asked for by a node is given back, and an empty list is left
pub record IsGivenBack {C : Type 0} (uses : List ℕ) (node : ℕ) (ids : List ℕ) (before after : List (Standing C)) : Type 0 where
  pub counted : length after ≡ length before
  pub emptied : All (λ a. slice_index uses a ≡ node → slice_get after a ≡ Some (Forms [])) ids
  pub others : (a : ℕ) → slice_index uses a ≢ node → slice_get after a ≡ slice_get before a
