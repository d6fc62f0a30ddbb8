-- The auxiliary unknowns of the nodes, one node after the other.
use Rattle.std.proofs.Common.{◌≡◌, ℕ, zero, suc, ◌+◌, ◌<◌, ◌≤◌, ◌^◌, arith, Bool, true, false, List, [], ◌++◌, length, length-append, map, Some, sym, ap, ◌∙◌, subst, add-zero, ◌-◌}
use Rattle.std.specs.Prelude.{slice_get}
use Rattle.std.proofs.lemmas.List.{length-map, append-nil}
use Rattle.dcx_atom.specs.declared.graph.Graph.{Graph}
use Rattle.dcx_arena.specs.Nodes.{call_at}
use Rattle.dcx_call.specs.declared.call.Call.{Call}
use Rattle.dcx_convex.specs.Rules.{Rules}
use Rattle.dcx_tree.specs.declared.problem.Problem.{Problem}
use Rattle.dcx_tree.specs.Nodes.{Node}
use Rattle.dcx_unknowns.specs.Unknowns.{variable_unknowns, variable_kinds}
use Rattle.dcx_unknowns.specs.Layout.{marked, AreReduced, call_aux, aux_if, IsNodeGraph, aux_kind, aux_of, aux_below, first_aux}
use Rattle.dcx_unknowns.proofs.Layouts.{node_some, aux_more, aux_no_more, marks_are}
use Rattle.dcx_unknowns.proofs.Owners.{are_numbered}
use Rattle.dcx_unknowns.proofs.Places.{joined_next}
use Rattle.dcx_nodes.specs.Given.{HasFewUnknowns, first_marked}
use Rattle.dcx_nodes.proofs.AtNode.{the_node, call_is}

-- there are no fewer before a later node
aux_grows : (nodes : List Node) (reduced : ℕ → Bool) (k d : ℕ) → length (aux_below nodes reduced k) ≤ length (aux_below nodes reduced (k + d))
aux_grows nodes reduced k zero = subst (λ m. length (aux_below nodes reduced k) ≤ length (aux_below nodes reduced m)) (sym (add-zero k)) (omega arith)
aux_grows nodes reduced k (suc d) =
    let more = ap length (joined_next (aux_of nodes reduced) (k + d)) ∙ length-append (aux_below nodes reduced (k + d)) (aux_of nodes reduced (k + d)) in
    let next : (k + d) + 1 ≡ k + suc d = omega arith in
    subst (λ m. length (aux_below nodes reduced k) ≤ length (aux_below nodes reduced m)) next (omega (arith, more, aux_grows nodes reduced k d))

module _ (p : Problem) (reduced : List Bool) where
  -- the first of each node is one of 2^32
  pub first_small : HasFewUnknowns p reduced → (k : ℕ) → k ≤ length p.tree → first_marked p reduced k < 2 ^ 32
  first_small few k le =
      let all = aux_below p.tree (marked reduced) (length p.tree) in
      let d = length p.tree - k in
      let same : k + d ≡ length p.tree = omega (arith, le) in
      let grows = subst (λ m. length (aux_below p.tree (marked reduced) k) ≤ length (aux_below p.tree (marked reduced) m)) same (aux_grows p.tree (marked reduced) k d) in
      omega (arith, few, grows, length-append (variable_kinds p.variables) (map aux_kind all), (are_numbered p.variables).kinds, length-map all aux_kind)

  -- by the rules whose marks these are
  pub first_by_rules : (rules : Rules) → length reduced ≡ length p.tree → AreReduced rules p reduced → (i : ℕ) → first_marked p reduced i ≡ first_aux rules p i
  first_by_rules rules count are i = ap (λ f. variable_unknowns p.variables + length (aux_below p.tree f i)) (marks_are rules p reduced count are)

  module _ (i : ℕ) where
    -- a graph takes its own
    pub next_graph : (g : Graph) → i < length p.tree → marked reduced i ≡ true → IsNodeGraph p.tree i (Some g) → first_marked p reduced (i + 1) ≡ first_marked p reduced i + length g.aux
    next_graph g lt e h =
        let more = ap length (aux_more p.tree (marked reduced) i e) ∙ length-append (aux_below p.tree (marked reduced) i) (aux_if p.tree true (slice_get p.tree i)) in
        let own = ap length (node_some p.tree i g lt h).0 in
        omega (arith, more, own)

    -- and they are few
    pub graph_room : HasFewUnknowns p reduced → (g : Graph) → i < length p.tree → marked reduced i ≡ true → IsNodeGraph p.tree i (Some g) → (first : ℕ) → first ≡ first_marked p reduced i
        → first + length g.aux < 2 ^ 32
    graph_room few g lt e h first is =
        let small = first_small few (i + 1) (omega (arith, lt)) in
        let next = next_graph g lt e h in
        omega (arith, small, next, is)

    -- a node that isn't reduced takes none
    pub next_unmarked : marked reduced i ≡ false → first_marked p reduced (i + 1) ≡ first_marked p reduced i
    next_unmarked e = ap (λ xs. variable_unknowns p.variables + length xs) (aux_no_more p.tree (marked reduced) i e)

    -- nor does a call without a graph
    pub next_without : (call : Call) → call_at p.tree i ≡ Some call → ((n : Node) → call_aux p.tree n call ≡ []) → marked reduced i ≡ true → first_marked p reduced (i + 1) ≡ first_marked p reduced i
    next_without call c none e =
        let (n, at) = the_node p i call c in
        let here : aux_if p.tree true (slice_get p.tree i) ≡ [] = ap (aux_if p.tree true) at ∙ ap (call_aux p.tree n) (call_is p i call c n at) ∙ none n in
        ap (λ xs. variable_unknowns p.variables + length xs)
        (aux_more p.tree (marked reduced) i e ∙ ap (λ xs. aux_below p.tree (marked reduced) i ++ xs) here ∙ append-nil (aux_below p.tree (marked reduced) i))
