-- Where the entries of nodes stand in one list of all entries, node by node.
use Rattle.std.specs.Prelude.{◌≡◌, ℕ, ◌+◌, ◌<◌, nat_lt, if◌then◌else◌, List, length, take, All, Option, Some, None}
use Rattle.dcx_shape.specs.Sides.{entries_of}
use Rattle.dcx_atom.specs.Arrays.{list_below}
use Rattle.dcx_arena.specs.Nodes.{entries_in, sides_at}
use Rattle.dcx_tree.specs.Nodes.{Node}

-- the entries of the nodes before node i
abbrev pub start_of : List Node → ℕ → ℕ
start_of nodes i = entries_in (take i nodes)

-- where each node begins
abbrev pub AreStarts : List Node → List ℕ → Type 0
AreStarts nodes starts = starts ≡ list_below (length nodes) (start_of nodes)

-- where entry e of a node stands; None where there is no such node, or the node has no such entry
abbrev pub place_of : List Node → Option ℕ → ℕ → Option ℕ
place_of nodes None e = None
place_of nodes (Some i) e = if nat_lt e (entries_of (sides_at nodes i)) then Some (start_of nodes i + e) else None

-- the arguments are nodes, and it is told where each node begins
pub record ArePlaces (nodes : List Node) (begins args : List ℕ) : Type 0 where
  pub there : All (λ a. a < length nodes) args
  pub starts : AreStarts nodes begins
