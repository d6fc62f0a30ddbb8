-- What is kept while nodes are finished one by one.
use Rattle.std.specs.Prelude.{◌≡◌, ℕ, suc, ◌+◌, ◌*◌, ◌<◌, true, List, [], ◌∷◌, ◌++◌, length, Option, Some, None, slice_get, slice_index_or}
use Rattle.std.specs.List.{flat_map, sum_by}
use Rattle.dcx_arena.specs.declared.store.Cell.{Cell}
use Rattle.dcx_arena.specs.declared.walk.Frame.{Frame}
use Rattle.dcx_arena.specs.declared.walk.Finished.{Finished}
use Rattle.dcx_arena.specs.Nodes.{Node, args_at}
use Rattle.dcx_arena.specs.Chains.{chain, IsChain}
use Rattle.dcx_arena.specs.Gather.{has, postorder}

-- the sum of what is numbered, the first being i
abbrev pub weigh : (ℕ → ℕ) → ℕ → List (Option ℕ) → ℕ
weigh f i [] = 0
weigh f i (None ∷ numbers) = weigh f (suc i) numbers
weigh f i (Some k ∷ numbers) = f i + weigh f (suc i) numbers

-- the number of each node is where it stands in the order
pub record IsNumbering (order : List ℕ) (numbers : List (Option ℕ)) : Type 0 where
  pub numbered : (i k : ℕ) → slice_index_or numbers i None ≡ Some k → slice_get order k ≡ Some i
  pub listed : (k i : ℕ) → slice_get order k ≡ Some i → slice_index_or numbers i None ≡ Some k
  pub weighs : (f : ℕ → ℕ) → sum_by f order ≡ weigh f 0 numbers

-- the arguments that are still to do
abbrev pub left_in : List Cell → Frame → List ℕ
left_in cells f = chain cells f.left f.at

module _ {C : Type 0} where
  -- each node stands behind its arguments
  abbrev pub IsClosed : List (Node C) → List ℕ → Type 0
  IsClosed nodes order = (k i a : ℕ) → slice_get order k ≡ Some i → has (args_at nodes i) a ≡ true → (h : ℕ) × (h < k) × (slice_get order h ≡ Some a)

  -- the nodes that are finished before a frame is done, each as often as it stands there
  abbrev pub rest_of : List Cell → List (Node C) → Frame → List ℕ
  rest_of cells nodes f = flat_map (postorder nodes) (left_in cells f) ++ f.node ∷ []

  -- the same for a stack of frames, the last of which is done first
  abbrev pub todo : List Cell → List (Node C) → List Frame → List ℕ
  todo cells nodes [] = []
  todo cells nodes (f ∷ frames) = todo cells nodes frames ++ rest_of cells nodes f

  -- the arguments of a frame's node are in the list or still to do
  pub record IsReady (cells : List Cell) (nodes : List (Node C)) (before : List ℕ) (f : Frame) : Type 0 where
    pub there : f.node < length nodes
    pub chained : IsChain cells f.left f.at
    pub some : (a : ℕ) → has (left_in cells f) a ≡ true → has (args_at nodes f.node) a ≡ true
    pub rest : (a : ℕ) → has (args_at nodes f.node) a ≡ true → has (before ++ left_in cells f) a ≡ true

  abbrev pub AreReady : List Cell → List (Node C) → List ℕ → List Frame → Type 0
  AreReady cells nodes before [] = Unit {0}
  AreReady cells nodes before (f ∷ frames) = IsReady cells nodes (before ++ todo cells nodes frames) f × AreReady cells nodes before frames

  -- the steps that a stack takes at most
  abbrev pub steps_of : List Cell → List (Node C) → List Frame → ℕ
  steps_of cells nodes frames = sum_by (λ f. 1 + 2 * length (flat_map (postorder nodes) (left_in cells f))) frames

  -- the nodes that are finished
  pub record IsFinished (nodes : List (Node C)) (f : Finished) : Type 0 where
    pub count : length f.numbers.items ≡ length nodes
    pub numbering : IsNumbering f.order.items f.numbers.items
    pub closed : IsClosed nodes f.order.items
