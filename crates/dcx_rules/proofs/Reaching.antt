-- Each node of a problem is reached, and so each has a curvature where the rules accept the problem.
use Rattle.std.proofs.Common.{◌≡◌, inl, inr, ℕ, suc, ◌<◌, true, List, [], ◌∷◌, map, length, Option, Some, None, option_map, refl, sym, ap, subst, ◌∙◌, zero-add}
use Rattle.std.specs.Prelude.{◌⊎◌}
use Rattle.std.specs.Option.{unwrap_or}
use Rattle.std.specs.List.{slice_get, range_with_len}
use Rattle.std.proofs.lemmas.List.FromFn.{length-range_with_len, get_or-range_with_len}
use Rattle.std.proofs.lemmas.Option.{none-some, slice_get-map, slice_get-get_or}
use Rattle.dcx_shape.specs.declared.shape.Sides.{Sides}
use Rattle.dcx_shape.specs.Shape.{sides_of}
use Rattle.dcx_arena.specs.Nodes.{args_at, sides_at}
use Rattle.dcx_arena.specs.Gather.{has}
use Rattle.dcx_arena.specs.Unfold.{Leads}
use Rattle.dcx_arena.proofs.Orders.{has_from, has_at, head_or}
use Rattle.dcx_arena.proofs.Unfolds.{there_reached}
use Rattle.dcx_call.specs.declared.call.Call.{Call}
use Rattle.dcx_call.specs.declared.call.Call.TheVariants as calls
use Rattle.dcx_call.specs.Calls.{own_sides, shape_of}
use Rattle.dcx_call.specs.Atoms.{atom_meaning}
use Rattle.dcx_call.specs.Linears.{linear_meaning}
use Rattle.dcx_convex.specs.Calls as convex_calls
use Rattle.dcx_convex.specs.Atoms.{atom_call, linear_call}
use Rattle.dcx_convex.specs.Nodes as convex_nodes
use Rattle.dcx_convex.specs.Nodes.{Head, Apply}
use Rattle.dcx_convex.specs.Rules.{Plain, judgement_at}
use Rattle.dcx_convex.specs.Problems.{IsReached, Objective, Left, Right, Argument}
use Rattle.dcx_convex.proofs.Reached.{IsBent, reached_bent}
use Rattle.dcx_tree.specs.declared.constraint.Constraint.{Constraint}
use Rattle.dcx_tree.specs.declared.problem.Problem.{Problem}
use Rattle.dcx_tree.specs.Nodes.{Names, Node, pairing_call, head_of, arg_sides, convex_node}
use Rattle.dcx_tree.specs.Problems.{sides_in, roots_of}
use Rattle.dcx_tree.specs.Meaning.{names_in, convex_constraint, convex_problem, IsAccepted}
use Rattle.dcx_tree.proofs.Lawful.{problem_lawful}

no_args : (its sides : Sides) (args : List Sides) → own_sides its args ≡ Some sides → args ≡ []
no_args its sides [] e = refl
no_args its sides (a ∷ args) e = absurd (none-some sides e)

map_none : {A B : Type 0} (f : A → B) (xs : List A) → map f xs ≡ [] → xs ≡ []
map_none f [] e = refl
map_none f (x ∷ xs) e = absurd (cc)

-- what has an argument is a call of arguments
applied : (names : Names) (call : Call) (args : List Sides) (sides : Sides) → shape_of call args ≡ Some sides → (args ≡ []) ⊎ ((c : convex_calls.Call) × (head_of names call args sides ≡ Apply c))
applied names (calls.Variable v) args sides e = inl (no_args (sides_of v.shape) sides args e)
applied names (calls.Parameter p) args sides e = inl (no_args (sides_of p.shape) sides args e)
applied names (calls.Constant x) args sides e = inl (no_args (sides_of x.shape) sides args e)
applied names (calls.Atom m) args sides e = inr (atom_call (atom_meaning m) args sides, refl)
applied names (calls.Linear l) args sides e = inr (linear_call (linear_meaning l) args sides, refl)
applied names (calls.Pairing p) args sides e = inr (pairing_call p args sides, refl)

abbrev node_of : Head → List ℕ → convex_nodes.Node
node_of head args = record { head = head; args = args }

module _ (p : Problem) where
  -- an argument of a node that is reached
  argument_reached : (i a : ℕ) → has (args_at p.tree i) a ≡ true → IsReached (convex_problem p) i → IsReached (convex_problem p) a
  argument_reached i a h r = by (slice_get p.tree i) refl h
    where
      by : (o : Option Node) → slice_get p.tree i ≡ o → has (unwrap_or (option_map (λ (n : Node). n.args) o) []) a ≡ true → IsReached (convex_problem p) a
      by None at k = absurd (cc)
      by (Some n) at k =
          let node = convex_node (names_in p) p.tree n in
          let here : slice_get (convex_problem p).nodes i ≡ Some node = slice_get-map (convex_node (names_in p) p.tree) p.tree i ∙ ap (option_map (convex_node (names_in p) p.tree)) at in
          let (j, place) = has_at n.args a k in
          elim (applied (names_in p) n.call (arg_sides p.tree n) n.sides (p.nodes.shaped i n at)) [
            | inl empty ↦ absurd (none-some a (ap (λ xs. slice_get xs j) (sym (map_none (sides_at p.tree) n.args empty)) ∙ place))
            | inr call ↦ Argument i call.0 n.args j a r (here ∙ ap (λ head. Some (node_of head n.args)) call.1) place
          ]

  led : (i : ℕ) (path : List ℕ) (j : ℕ) → Leads p.tree i path j → IsReached (convex_problem p) i → IsReached (convex_problem p) j
  led i [] j e r = subst (IsReached (convex_problem p)) e r
  led i (a ∷ path) j l r = led a path j l.1 (argument_reached i a l.0 r)

  -- a side of a constraint
  side_reached : (cs : List Constraint) → ((k : ℕ) (c : Constraint) → slice_get cs k ≡ Some c → IsReached (convex_problem p) c.left.0 × IsReached (convex_problem p) c.right.0) →
      (j : ℕ) → has (sides_in cs) j ≡ true → IsReached (convex_problem p) j
  side_reached [] each j h = absurd (cc)
  side_reached (c ∷ cs) each j h =
      elim (head_or c.left.0 j (c.right.0 ∷ sides_in cs) h) [
        | inl e ↦ subst (IsReached (convex_problem p)) e (each 0 c refl).0
        | inr t ↦ elim (head_or c.right.0 j (sides_in cs) t) [
          | inl e ↦ subst (IsReached (convex_problem p)) e (each 0 c refl).1
          | inr u ↦ side_reached cs (λ k. each (suc k)) j u
        ]
      ]

  sides_reached : (k : ℕ) (c : Constraint) → slice_get p.constraints k ≡ Some c → IsReached (convex_problem p) c.left.0 × IsReached (convex_problem p) c.right.0
  sides_reached k c at =
      let here : slice_get (convex_problem p).constraints k ≡ Some (convex_constraint c) = slice_get-map convex_constraint p.constraints k ∙ ap (option_map convex_constraint) at in
      (Left k (convex_constraint c) here, Right k (convex_constraint c) here)

  root_reached : (j : ℕ) → has (roots_of p.objective p.constraints) j ≡ true → IsReached (convex_problem p) j
  root_reached j h = elim (head_or p.objective.0 j (sides_in p.constraints) h) [
    | inl e ↦ subst (IsReached (convex_problem p)) e Objective
    | inr t ↦ side_reached p.constraints sides_reached j t
  ]

  in_range : (n i : ℕ) → i < n → has (range_with_len 0 n) i ≡ true
  in_range n i lt =
      has_from (range_with_len 0 n) i i
      (slice_get-get_or (range_with_len 0 n) i 0 (subst (λ m. i < m) (sym (length-range_with_len 0 n)) lt) ∙ ap Some (get_or-range_with_len 0 n i 0 lt ∙ zero-add i))

  pub each_reached : (i : ℕ) → i < length p.tree → IsReached (convex_problem p) i
  each_reached i lt =
      let r = there_reached shape_of p.tree p.nodes (roots_of p.objective p.constraints) i (ap (λ xs. has xs i) p.numbered ∙ in_range (length p.tree) i lt) in
      led r.root r.path i r.leads (root_reached r.root r.is_root)

  -- in an accepted problem each node is convex or concave
  pub each_bent : IsAccepted p → (i : ℕ) → i < length p.tree → IsBent (judgement_at Plain (convex_problem p).nodes i)
  each_bent ok i lt = reached_bent Plain (convex_problem p) (problem_lawful p).ordered ok i (each_reached i lt)
