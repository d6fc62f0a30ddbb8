-- What is known of a node by its call.
use Rattle.std.proofs.Common.{◌≡◌, ℕ, ◌<◌, arith, List, length, map, All, Some, option_map, sym, ap, ◌∙◌, subst}
use Rattle.std.specs.Prelude.{slice_get}
use Rattle.std.proofs.lemmas.List.Elements.{All-weaker}
use Rattle.std.proofs.lemmas.Option.{same_Some, slice_get_within}
use Rattle.dcx_arena.specs.Nodes.{IsNode, call_at, args_at, sides_at}
use Rattle.dcx_call.specs.declared.call.Call.{Call}
use Rattle.dcx_call.specs.Calls.{shape_of}
use Rattle.dcx_tree.specs.declared.problem.Problem.{Problem}
use Rattle.dcx_tree.specs.Nodes.{Node, arg_sides}
use Rattle.dcx_tree.proofs.Names.{found_in}
use Rattle.dcx_tree.proofs.NodeValues.{args_are}

module _ (p : Problem) (i : ℕ) (call : Call) (c : call_at p.tree i ≡ Some call) where
  -- it has this call
  pub call_is : (n : Node) → IsNode p.tree i n → n.call ≡ call
  call_is n at = same_Some n.call call (ap (option_map (λ (z : Node). z.call)) (sym at) ∙ c)

  -- and the sides that the call gives
  pub shape_given : (n : Node) → IsNode p.tree i n → shape_of call (arg_sides p.tree n) ≡ Some n.sides
  shape_given n at = ap (λ z. shape_of z (arg_sides p.tree n)) (sym (call_is n at)) ∙ p.nodes.shaped i n at

  pub the_node : (n : Node) × IsNode p.tree i n
  the_node = let (n, at, is) = found_in (slice_get p.tree i) call c in (n, at)

-- its arguments stand before it
pub args_before : (p : Problem) (i : ℕ) (n : Node) → IsNode p.tree i n → (ids : List ℕ) → ids ≡ args_at p.tree i → All (λ a. a < i) ids
args_before p i n at ids e = subst (All (λ a. a < i)) (sym (e ∙ args_are p.tree i n at)) (p.nodes.earlier i n at)

-- the sides of its arguments
pub sides_of_args : (p : Problem) (i : ℕ) (n : Node) → IsNode p.tree i n → (ids : List ℕ) → ids ≡ args_at p.tree i → map (sides_at p.tree) ids ≡ arg_sides p.tree n
sides_of_args p i n at ids e = ap (map (sides_at p.tree)) (e ∙ args_are p.tree i n at)

-- and in the tree
pub args_within : (p : Problem) (i : ℕ) (n : Node) → IsNode p.tree i n → (ids : List ℕ) → ids ≡ args_at p.tree i → All (λ a. a < length p.tree) ids
args_within p i n at ids e =
    let lt = slice_get_within p.tree i n at in
    All-weaker (λ a. a < i) (λ a. a < length p.tree) (λ a b. omega (arith, b, lt)) ids (args_before p i n at ids e)
