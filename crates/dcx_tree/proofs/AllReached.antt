-- Each node of a problem over a tree is reached, as nodes of disciplined convex programming are.
use Rattle.std.proofs.Common.{◌≡◌, inl, inr, ℕ, suc, ◌+◌, ◌<◌, arith, true, List, [], ◌∷◌, length, Option, Some, None, option_map, slice_get, refl, sym, ap, ◌∙◌, subst}
use Rattle.std.specs.Option.{unwrap_or}
use Rattle.std.specs.List.{range_with_len}
use Rattle.std.proofs.lemmas.Option.{slice_get-map, slice_get-get_or}
use Rattle.std.proofs.lemmas.List.FromFn.{length-range_with_len, get_or-range_with_len}
use Rattle.dcx_arena.specs.Nodes.{IsNode}
use Rattle.dcx_arena.specs.Gather.{has}
use Rattle.dcx_arena.specs.Unfold.{Leads}
use Rattle.dcx_arena.proofs.Orders.{has_at, has_from, head_or}
use Rattle.dcx_arena.proofs.Unfolds.{there_reached}
use Rattle.dcx_convex.specs.Nodes as convex
use Rattle.dcx_convex.specs.Problems.{IsReached, Objective, Left, Right, Argument}
use Rattle.dcx_convex.specs.Problems as problems
use Rattle.dcx_call.specs.declared.call.Call.{Call}
use Rattle.dcx_call.specs.declared.call.Call.TheVariants as calls
use Rattle.dcx_call.specs.Calls.{shape_of}
use Rattle.dcx_tree.specs.declared.problem.Problem.{Problem}
use Rattle.dcx_tree.specs.declared.constraint.Constraint.{Constraint}
use Rattle.dcx_tree.specs.Nodes.{Node, head_of, arg_sides, convex_node}
use Rattle.dcx_tree.specs.Problems.{roots_of, sides_in}
use Rattle.dcx_tree.specs.Meaning.{names_in, convex_constraint, convex_problem}
use Rattle.dcx_tree.proofs.Arguments.{no_args}

-- number i of those in order is i
pub range_at : (n i : ℕ) → i < n → slice_get (range_with_len 0 n) i ≡ Some i
range_at n i b =
    let c : i < length (range_with_len 0 n) = let l = length-range_with_len 0 n in omega (arith, l, b) in
    let z : 0 + i ≡ i = omega arith in
    slice_get-get_or (range_with_len 0 n) i 0 c ∙ ap Some (get_or-range_with_len 0 n i 0 b ∙ z)

module _ (p : Problem) where
  abbrev problem : problems.Problem
  problem = convex_problem p

  -- a node of the tree is one in the terms of disciplined convex programming
  pub convex_at : (i : ℕ) (n : Node) → IsNode p.tree i n → convex.IsNode problem.nodes i (convex_node (names_in p) p.tree n)
  convex_at i n at = slice_get-map (convex_node (names_in p) p.tree) p.tree i ∙ ap (option_map (convex_node (names_in p) p.tree)) at

  -- ---- where a problem begins
  sides_reached : (cs : List Constraint) → ((k : ℕ) (c : Constraint) → slice_get cs k ≡ Some c → IsReached problem c.left.0 × IsReached problem c.right.0) →
      (r : ℕ) → has (sides_in cs) r ≡ true → IsReached problem r
  sides_reached [] at r h = absurd (cc)
  sides_reached (c ∷ cs) at r h = elim (head_or c.left.0 r (c.right.0 ∷ sides_in cs) h) [
    | inl e ↦ subst (IsReached problem) e (at 0 c refl).0
    | inr more ↦ elim (head_or c.right.0 r (sides_in cs) more) [
      | inl e ↦ subst (IsReached problem) e (at 0 c refl).1
      | inr rest ↦ sides_reached cs (λ k. at (suc k)) r rest
    ]
  ]

  constraint_reached : (k : ℕ) (c : Constraint) → slice_get p.constraints k ≡ Some c → IsReached problem c.left.0 × IsReached problem c.right.0
  constraint_reached k c e =
      let there : problems.IsConstraint problem k (convex_constraint c) = slice_get-map convex_constraint p.constraints k ∙ ap (option_map convex_constraint) e in
      (Left k (convex_constraint c) there, Right k (convex_constraint c) there)

  root_reached : (r : ℕ) → has (roots_of p.objective p.constraints) r ≡ true → IsReached problem r
  root_reached r h = elim (head_or p.objective.0 r (sides_in p.constraints) h) [
    | inl e ↦ subst (IsReached problem) e Objective
    | inr rest ↦ sides_reached p.constraints constraint_reached r rest
  ]

  -- ---- arguments
  call_argument : (i : ℕ) (n : Node) → (call : Call) → convex.IsNode problem.nodes i (record { head = head_of (names_in p) call (arg_sides p.tree n) n.sides; args = n.args }) →
      shape_of call (arg_sides p.tree n) ≡ Some n.sides → IsReached problem i → (a : ℕ) → has n.args a ≡ true → IsReached problem a
  call_argument i n (calls.Variable v) at shape r a h = absurd (no_args _ n.sides _ n.args a shape h)
  call_argument i n (calls.Parameter v) at shape r a h = absurd (no_args _ n.sides _ n.args a shape h)
  call_argument i n (calls.Constant v) at shape r a h = absurd (no_args _ n.sides _ n.args a shape h)
  call_argument i n (calls.Atom m) at shape r a h = let (k, e) = has_at n.args a h in Argument i _ n.args k a r at e
  call_argument i n (calls.Linear l) at shape r a h = let (k, e) = has_at n.args a h in Argument i _ n.args k a r at e
  call_argument i n (calls.Pairing q) at shape r a h = let (k, e) = has_at n.args a h in Argument i _ n.args k a r at e

  argument_reached : (o : Option Node) (i : ℕ) → slice_get p.tree i ≡ o → IsReached problem i → (a : ℕ) → has (unwrap_or (option_map (λ n. n.args) o) []) a ≡ true → IsReached problem a
  argument_reached None i at r a h = absurd (cc)
  argument_reached (Some n) i at r a h = call_argument i n n.call (convex_at i n at) (p.nodes.shaped i n at) r a h

  lead_reached : (path : List ℕ) (i j : ℕ) → IsReached problem i → Leads p.tree i path j → IsReached problem j
  lead_reached [] i j r e = subst (IsReached problem) e r
  lead_reached (a ∷ path) i j r l = lead_reached path a j (argument_reached (slice_get p.tree i) i refl r a l.0) l.1

  pub node_reached : (i : ℕ) → i < length p.tree → IsReached problem i
  node_reached i b =
      let w = there_reached shape_of p.tree p.nodes (roots_of p.objective p.constraints) i
      (subst (λ xs. has xs i ≡ true) (sym p.numbered) (has_from (range_with_len 0 (length p.tree)) i i (range_at (length p.tree) i b))) in
      lead_reached w.path w.root i (root_reached w.root w.is_root) w.leads
