-- How the store keeps a list of nodes: arguments as chains of cells, and one chain of nodes for each bucket.
use Rattle.std.specs.Prelude.{◌≡◌, ℕ, zero, suc, ◌+◌, ◌*◌, ◌%◌, ◌<◌, ◌≤◌, List, [], ◌∷◌, length, Option, Some, None, map, option_map, slice_get, slice_index_or, IfSome}
use Rattle.dcx_shape.specs.Shape.{sides_of}
use Rattle.dcx_shape.specs.declared.shape.Sides.{Sides}
use Rattle.dcx_shape.specs.declared.shape.Sides.TheVariants.{Scalar}
use Rattle.std.specs.Option.{unwrap_or}
use Rattle.dcx_arena.specs.declared.store.Cell.{Cell}
use Rattle.dcx_arena.specs.declared.store.Stored.{Stored}
use Rattle.dcx_arena.specs.declared.store.Store.{Store}
use Rattle.dcx_arena.specs.Nodes.{Node, AreNodes, entries_in}

-- the cell at a place
abbrev pub cell_at : List Cell → ℕ → Cell
cell_at cells i = slice_index_or cells i (record { node = 0; next = 0 })

-- the nodes that so many cells name, each cell with the place of the next one
abbrev pub chain : List Cell → ℕ → ℕ → List ℕ
chain cells zero at = []
chain cells (suc count) at = (cell_at cells at).node ∷ chain cells count (cell_at cells at).next

-- these cells are there
abbrev pub IsChain : List Cell → ℕ → ℕ → Type 0
IsChain cells zero at = Unit {0}
IsChain cells (suc count) at = (at < length cells) × IsChain cells count (cell_at cells at).next

abbrev pub number_of_buckets : ℕ
number_of_buckets = 8191

-- a bucket, mixed with the positions of arguments
abbrev pub mixed : ℕ → List ℕ → ℕ
mixed n [] = n
mixed n (a ∷ rest) = mixed ((n * 89 + a % number_of_buckets) % number_of_buckets) rest

-- where a link leads to, j isn't above it
abbrev pub IsUpTo : ℕ → Option ℕ → Type 0
IsUpTo j None = ⊥
IsUpTo j (Some i) = j ≤ i

module _ {C : Type 0} where
  -- the bucket of a call with its arguments
  abbrev pub bucket_for : (C → ℕ) → C → List ℕ → ℕ
  bucket_for hash call args = mixed (hash call % number_of_buckets) args

  abbrev pub args_of : List Cell → Stored C → List ℕ
  args_of cells s = chain cells s.count s.first

  abbrev pub node_of : List Cell → Stored C → Node C
  node_of cells s = record { call = s.call; args = args_of cells s; sides = sides_of s.shape; place = s.place }

  abbrev pub nodes_of : List Cell → List (Stored C) → List (Node C)
  nodes_of cells stored = map (node_of cells) stored

  -- the sides of stored node i
  abbrev pub sides_in : List (Stored C) → ℕ → Sides
  sides_in stored i = unwrap_or (option_map (λ s. sides_of s.shape) (slice_get stored i)) Scalar

  -- node i is of this bucket
  abbrev pub IsIn : List (Stored C) → ℕ → ℕ → Type 0
  IsIn stored bucket i = option_map (λ s. s.bucket) (slice_get stored i) ≡ Some bucket

  -- the last node of a bucket among the first n
  pub record IsLast (stored : List (Stored C)) (n bucket : ℕ) (at : Option ℕ) : Type 0 where
    pub within : IfSome at (λ i. (i < n) × IsIn stored bucket i)
    pub last : (j : ℕ) → j < n → IsIn stored bucket j → IsUpTo j at

  -- each node's cells are there, its bucket is its own, and its link leads to the last node before it in that bucket
  pub record IsKept (hash : C → ℕ) (cells : List Cell) (stored : List (Stored C)) : Type 0 where
    pub chained : (i : ℕ) (s : Stored C) → slice_get stored i ≡ Some s → IsChain cells s.count s.first
    pub hashed : (i : ℕ) (s : Stored C) → slice_get stored i ≡ Some s → s.bucket ≡ bucket_for hash s.call (args_of cells s)
    pub linked : (i : ℕ) (s : Stored C) → slice_get stored i ≡ Some s → IsLast stored i s.bucket s.next

  -- the head of each bucket's chain is its last node
  abbrev pub AreHeads : List (Stored C) → List (Option ℕ) → Type 0
  AreHeads stored heads = (b : ℕ) → b < number_of_buckets → IsLast stored (length stored) b (slice_index_or heads b None)

  -- what the store keeps
  pub record IsStore (gives : C → List Sides → Option Sides) (hash : C → ℕ) (cells : List Cell) (stored : List (Stored C)) (heads : List (Option ℕ)) (entries : ℕ) : Type 0 where
    pub kept : IsKept hash cells stored
    pub led : AreHeads stored heads
    pub counted : entries ≡ entries_in (nodes_of cells stored)
    pub nodes : AreNodes gives (nodes_of cells stored)

  -- the nodes of a store
  abbrev pub nodes_in : Store C → List (Node C)
  nodes_in s = nodes_of s.cells.items s.stored.items

  -- the store is sound
  abbrev pub IsSound : (C → List Sides → Option Sides) → (C → ℕ) → Store C → Type 0
  IsSound gives hash s = IsStore gives hash s.cells.items s.stored.items s.heads.items s.entries
