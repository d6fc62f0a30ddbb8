-- A list of nodes, where equal expressions are one node, and how a node comes to it.
use Rattle.std.specs.Prelude.{◌≡◌, ℕ, ◌+◌, ◌<◌, ◌≤◌, ◌⊎◌, ◌++◌, List, [], ◌∷◌, length, Option, Some, None, Result, Ok, Err, map, option_map, slice_get}
use Rattle.std.specs.Option.{unwrap_or}
use Rattle.std.specs.List.{All, sum_by}
use Rattle.dcx_shape.specs.declared.shape.Sides.{Sides}
use Rattle.dcx_shape.specs.declared.shape.Sides.TheVariants.{Scalar}
use Rattle.dcx_shape.specs.declared.place.Place.{Place}
use Rattle.dcx_shape.specs.Sides.{entries_of}
use Rattle.dcx_arena.specs.declared.node.NodeId.{NodeId}
use Rattle.dcx_arena.specs.declared.fault.Count.{Count}
use Rattle.dcx_arena.specs.declared.fault.Count.TheVariants.{Nodes, Entries, Items, Steps, Events}
use Rattle.dcx_arena.specs.declared.fault.TreeFault.{TreeFault}
use Rattle.dcx_arena.specs.declared.fault.TreeFault.TheVariants.{Clash, TooMany, Memory}

-- a call with the positions of its arguments, the sides of its value, and where it stands in the script
pub record Node (C : Type 0) : Type 0 where
  pub call : C
  pub args : List ℕ
  pub sides : Sides
  pub place : Place

-- the positions that these ids name
abbrev pub positions : List NodeId → List ℕ
positions ids = map (λ a. a.0) ids

-- the most nodes, and the most entries over all nodes
abbrev pub most : ℕ
most = 20000

-- so many nodes, or, the nodes being few enough, so many entries are too many
abbrev pub IsOver : ℕ → ℕ → Count → ℕ → Type 0
IsOver nodes entries Nodes count = (most < nodes) × (count ≡ nodes)
IsOver nodes entries Entries count = (nodes ≤ most) × (most < entries) × (count ≡ entries)
IsOver nodes entries Items count = ⊥
IsOver nodes entries Steps count = ⊥
IsOver nodes entries Events count = ⊥

-- so many nodes and entries may be
pub record IsWithin (nodes entries : ℕ) : Type 0 where
  pub few_nodes : nodes ≤ most
  pub few_entries : entries ≤ most

-- the fault says that so many nodes or entries are too many
abbrev pub IsExcess : ℕ → ℕ → TreeFault → Type 0
IsExcess nodes entries Clash = ⊥
IsExcess nodes entries (TooMany what count) = IsOver nodes entries what count
IsExcess nodes entries Memory = ⊥

-- how a push of a call without a shape ends
abbrev pub IsClash : Result NodeId TreeFault → Type 0
IsClash (Ok id) = ⊥
IsClash (Err Clash) = Unit {0}
IsClash (Err (TooMany what count)) = ⊥
IsClash (Err Memory) = Unit {0}

module _ {C : Type 0} where
  -- node i of the list is n
  abbrev pub IsNode : List (Node C) → ℕ → Node C → Type 0
  IsNode nodes i n = slice_get nodes i ≡ Some n

  -- the call of node i
  abbrev pub call_at : List (Node C) → ℕ → Option C
  call_at nodes i = option_map (λ n. n.call) (slice_get nodes i)

  -- where node i stands in the script
  abbrev pub place_at : List (Node C) → ℕ → Option Place
  place_at nodes i = option_map (λ n. n.place) (slice_get nodes i)

  -- the arguments of node i, which has none where it isn't there
  abbrev pub args_at : List (Node C) → ℕ → List ℕ
  args_at nodes i = unwrap_or (option_map (λ n. n.args) (slice_get nodes i)) []

  -- the sides of node i
  abbrev pub sides_at : List (Node C) → ℕ → Sides
  sides_at nodes i = unwrap_or (option_map (λ n. n.sides) (slice_get nodes i)) Scalar

  -- the entries over all nodes
  abbrev pub entries_in : List (Node C) → ℕ
  entries_in nodes = sum_by (λ n. entries_of n.sides) nodes

  -- the same call of the same arguments
  pub record IsOf (n : Node C) (call : C) (args : List ℕ) : Type 0 where
    pub same_call : n.call ≡ call
    pub same_args : n.args ≡ args

  -- each argument stands before its node, no two nodes have the same call and the same arguments, each node has the
  -- sides that its call gives, and nodes and entries are at most 20,000
  pub record AreNodes (gives : C → List Sides → Option Sides) (nodes : List (Node C)) : Type 0 where
    pub earlier : (i : ℕ) (n : Node C) → IsNode nodes i n → All (λ a. a < i) n.args
    pub distinct : (i j : ℕ) (m n : Node C) → IsNode nodes i m → IsNode nodes j n → IsOf m n.call n.args → i ≡ j
    pub shaped : (i : ℕ) (n : Node C) → IsNode nodes i n → gives n.call (map (sides_at nodes) n.args) ≡ Some n.sides
    pub room : IsWithin (length nodes) (entries_in nodes)

  -- node i has this call and these arguments
  abbrev pub Holds : List (Node C) → C → List ℕ → ℕ → Type 0
  Holds nodes call args i = (n : Node C) × IsNode nodes i n × IsOf n call args

  -- no node has this call and these arguments
  abbrev pub IsNew : List (Node C) → C → List ℕ → Type 0
  IsNew nodes call args = (i : ℕ) → ¬ Holds nodes call args i

  -- node n came to the list as the next one, being new
  pub record IsAdded (before : List (Node C)) (n : Node C) (i : ℕ) (after : List (Node C)) : Type 0 where
    pub new : IsNew before n.call n.args
    pub room : IsWithin (length before + 1) (entries_in before + entries_of n.sides)
    pub last : i ≡ length before
    pub added : after ≡ before ++ n ∷ []

  -- the list is as it was, since node i is there with the call and the arguments of n
  pub record IsFound (before : List (Node C)) (n : Node C) (i : ℕ) (after : List (Node C)) : Type 0 where
    pub there : Holds before n.call n.args i
    pub same : after ≡ before

  -- node n doesn't come to the list, since it is new and there would be too much
  pub record IsRefused (before : List (Node C)) (n : Node C) (what : Count) (count : ℕ) : Type 0 where
    pub new : IsNew before n.call n.args
    pub over : IsOver (length before + 1) (entries_in before + entries_of n.sides) what count

  -- how a push of node n ends
  abbrev pub PushEnds : List (Node C) → Node C → Result NodeId TreeFault → List (Node C) → Type 0
  PushEnds before n (Ok id) after = IsFound before n id.0 after ⊎ IsAdded before n id.0 after
  PushEnds before n (Err Clash) after = ⊥
  PushEnds before n (Err (TooMany what count)) after = IsRefused before n what count
  PushEnds before n (Err Memory) after = Unit {0}

  -- how a push of a call ends, whose value has these sides, if it has one
  abbrev pub EndsAt : List (Node C) → C → List ℕ → Place → Result NodeId TreeFault → List (Node C) → Option Sides → Type 0
  EndsAt before call args place result after None = IsClash result
  EndsAt before call args place result after (Some sides) =
      PushEnds before (record { call = call; args = args; sides = sides; place = place }) result after

  -- how `push` ends: with the node of this call and these arguments, which is there or added, or with the fault of its cause
  abbrev pub IsPushed : (C → List Sides → Option Sides) → List (Node C) → C → List ℕ → Place → Result NodeId TreeFault → List (Node C) → Type 0
  IsPushed gives before call args place result after =
      EndsAt before call args place result after (gives call (map (sides_at before) args))
