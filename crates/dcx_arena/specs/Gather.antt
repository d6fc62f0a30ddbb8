-- The part of a list of nodes that roots reach, numbered in the order in which its nodes are first finished.
use Rattle.std.specs.Prelude.{◌≡◌, ℕ, zero, suc, ◌==◌, Bool, true, false, if◌then◌else◌, List, [], ◌∷◌, ◌++◌, length, Some, map, slice_get}
use Rattle.std.specs.List.{flat_map}
use Rattle.dcx_arena.specs.Nodes.{Node, IsNode, args_at}

-- whether x is one of the numbers
abbrev pub has : List ℕ → ℕ → Bool
has [] x = false
has (y ∷ ys) x = if y == x then true else has ys x

-- the numbers with x at the end, unless it is there
abbrev pub with_new : List ℕ → ℕ → List ℕ
with_new xs x = if has xs x then xs else xs ++ x ∷ []

-- the numbers with each of these in turn
abbrev pub with_all : List ℕ → List ℕ → List ℕ
with_all xs [] = xs
with_all xs (y ∷ ys) = with_all (with_new xs y) ys

-- each number where it first stands
abbrev pub firsts : List ℕ → List ℕ
firsts xs = with_all [] xs

-- in a part with this order, the positions `there` stand for the positions `here` of the whole
abbrev pub StandFor : List ℕ → List ℕ → List ℕ → Type 0
StandFor order there here = map (slice_get order) there ≡ map Some here

module _ {C : Type 0} where
  -- the nodes of the expression of node i, whose number is below n, in the order in which they are finished: arguments
  -- from left to right, and then their call, each as often as it stands in the expression
  abbrev pub postorder_below : ℕ → List (Node C) → ℕ → List ℕ
  postorder_below zero nodes i = []
  postorder_below (suc n) nodes i = flat_map (postorder_below n nodes) (args_at nodes i) ++ i ∷ []

  unfoldable pub postorder : List (Node C) → ℕ → List ℕ
  postorder nodes i = postorder_below (suc i) nodes i

  -- the nodes that the roots reach, in the order in which they are first finished
  abbrev pub order_of : List (Node C) → List ℕ → List ℕ
  order_of nodes roots = firsts (flat_map (postorder nodes) roots)

  -- n is m with its arguments named as the order has them
  pub record IsRenamed (order : List ℕ) (m n : Node C) : Type 0 where
    pub same_call : n.call ≡ m.call
    pub same_sides : n.sides ≡ m.sides
    pub same_place : n.place ≡ m.place
    pub same_args : StandFor order n.args m.args

  -- node k of the part is node `order[k]` of the whole, renamed
  abbrev pub AreRenamed : List (Node C) → List ℕ → List (Node C) → Type 0
  AreRenamed nodes order part = (k : ℕ) (n : Node C) → IsNode part k n → (i : ℕ) × (m : Node C) × (slice_get order k ≡ Some i) × IsNode nodes i m × IsRenamed order m n

  -- the part that the roots reach, and where the roots stand in it
  pub record IsGathered (nodes : List (Node C)) (roots : List ℕ) (part : List (Node C)) (ends : List ℕ) : Type 0 where
    pub count : length part ≡ length (order_of nodes roots)
    pub renamed : AreRenamed nodes (order_of nodes roots) part
    pub roots_stand : StandFor (order_of nodes roots) ends roots
