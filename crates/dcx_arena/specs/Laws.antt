-- The laws of trees, as the clauses of the law functions say them.
use Rattle.std.specs.Prelude.{◌≡◌, ◌↔◌, ℕ, ◌<◌, true, List, [], ◌∷◌, ◌++◌, length, Option, Some, slice_get}
use Rattle.std.specs.List.{flat_map}
use Rattle.dcx_shape.specs.declared.shape.Sides.{Sides}
use Rattle.dcx_arena.specs.Nodes.{Node, AreNodes, args_at}
use Rattle.dcx_arena.specs.Gather.{has, postorder, order_of, StandFor, IsGathered}
use Rattle.dcx_arena.specs.Unfold.{Expressions, Unfold, IsReached}

module _ {C : Type 0} (gives : C → List Sides → Option Sides) where
  -- each node stands for one expression, and no other node of its tree stands for that one
  pub record HoldsForSharing : Type 0 where
    pub exists : (nodes : List (Node C)) → AreNodes gives nodes → (i : ℕ) → i < length nodes → (t : Expressions C) × Unfold nodes (i ∷ []) t
    pub one : (nodes : List (Node C)) (is : List ℕ) (t u : Expressions C) → Unfold nodes is t → Unfold nodes is u → t ≡ u
    pub shared : (nodes : List (Node C)) → AreNodes gives nodes → (i j : ℕ) (t : Expressions C) → Unfold nodes (i ∷ []) t → Unfold nodes (j ∷ []) t → i ≡ j

  -- a node is finished after its arguments, from left to right; the order has the nodes that the roots reach, each once;
  -- and the nodes of a part stand for the expressions for which they stood in the whole
  pub record HoldsForParts : Type 0 where
    pub finishing : (nodes : List (Node C)) → AreNodes gives nodes → (i : ℕ) → postorder nodes i ≡ flat_map (postorder nodes) (args_at nodes i) ++ i ∷ []
    pub reached : (nodes : List (Node C)) → AreNodes gives nodes → (roots : List ℕ) (j : ℕ) → (has (order_of nodes roots) j ≡ true) ↔ IsReached nodes roots j
    pub once : (nodes : List (Node C)) (roots : List ℕ) (h k i : ℕ) → slice_get (order_of nodes roots) h ≡ Some i → slice_get (order_of nodes roots) k ≡ Some i → h ≡ k
    pub unfolding_kept : (nodes part : List (Node C)) (roots ends : List ℕ) → IsGathered nodes roots part ends →
        (there here : List ℕ) → StandFor (order_of nodes roots) there here → (t : Expressions C) → Unfold part there t ↔ Unfold nodes here t
