-- The expressions that nodes stand for, as finite trees.
use Rattle.std.specs.Prelude.{◌≡◌, ℕ, true, List, [], ◌∷◌}
use Rattle.dcx_arena.specs.Nodes.{Node, IsNode, args_at}
use Rattle.dcx_arena.specs.Gather.{has}

-- a list of expressions: none, or one, by its call and its arguments, and the others
pub data Expressions (C : Type 0) : Type 0 where
  none : Expressions C
  one : (call : C) → (args : Expressions C) → (others : Expressions C) → Expressions C

-- these nodes stand for these expressions, each with the call of its node and the arguments of its node
abbrev pub Unfold : {C : Type 0} → List (Node C) → List ℕ → Expressions C → Type 0
Unfold nodes [] none = Unit {0}
Unfold nodes (i ∷ rest) none = ⊥
Unfold {C} nodes [] (one call args others) = ⊥
Unfold {C} nodes (i ∷ rest) (one call args others) = (n : Node C) × IsNode nodes i n × (n.call ≡ call) × Unfold nodes n.args args × Unfold nodes rest others

-- from node i these arguments of arguments lead to node j
abbrev pub Leads : {C : Type 0} → List (Node C) → ℕ → List ℕ → ℕ → Type 0
Leads nodes i [] j = i ≡ j
Leads nodes i (a ∷ path) j = (has (args_at nodes i) a ≡ true) × Leads nodes a path j

-- a root reaches node j
pub record IsReached {C : Type 0} (nodes : List (Node C)) (roots : List ℕ) (j : ℕ) : Type 0 where
  pub root : ℕ
  pub path : List ℕ
  pub is_root : has roots root ≡ true
  pub leads : Leads nodes root path j
