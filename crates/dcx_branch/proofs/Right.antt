-- A run of nodes ends right: what is known of each state to which it comes, and what the last one shows.
use Rattle.std.proofs.Common.{◌≡◌, inl, inr, ℕ, zero, suc, List, [], ◌∷◌, ◌++◌, Some, None, refl, sym, subst}
use Rattle.std.specs.Prelude.{pos, ◌+ℤ◌}
use Rattle.std.proofs.lemmas.Option.{none-some, same_Some}
use Rattle.dcx_math.proofs.Orders.{≤ℚ_trans, ≤ℚ_antisym, ≤ℚ-from_≡}
use Rattle.dcx_frac.specs.declared.fraction.Frac.{Frac}
use Rattle.dcx_frac.specs.Frac.{value}
use Rattle.dcx_point.specs.Pairs.{Pairs}
use Rattle.dcx_convex.specs.Nodes.{Setting}
use Rattle.dcx_tree.specs.declared.problem.Problem.{Problem}
use Rattle.dcx_tree.specs.Meaning.{point_of}
use Rattle.dcx_std.specs.Solutions.{HasKinds}
use Rattle.dcx_lp_solve.specs.declared.solving.Solved.{Solved}
use Rattle.dcx_graph.specs.Program.{Program}
use Rattle.dcx_graph.specs.Answers.{IsReducedAt}
use Rattle.dcx_right.specs.Boxes.{Box, root_box, at_most, at_least}
use Rattle.dcx_right.specs.WholeAnswers.{Shows, IsRightFor}
use Rattle.dcx_right.proofs.Trees.{trees_bound, trees_show_optima, trees_show_none, root_has_all}
use Rattle.dcx_answer.specs.declared.branch_tree.BranchNode.{BranchNode}
use Rattle.dcx_answer.specs.declared.whole_answer.WholeAnswer.TheVariants.{Optimal, Infeasible}
use Rattle.dcx_branch.specs.Places.{places}
use Rattle.dcx_branch.specs.Rows.{node_rows}
use Rattle.dcx_branch.specs.Run.{State, start, best_value, Turn, Cut, Found, Divided, TurnsOut, after, bounds_in, IsNode, Steps, IsListed, Takes, no_node, one_node, EndsWith}
use Rattle.dcx_branch.specs.Answers.{EndsAt, RunsAreRight}
use Rattle.dcx_branch.proofs.Known.{Completes, IsNested, IsPlaced, HoldsWhole}
use Rattle.dcx_branch.proofs.Members.{Each}
use Rattle.dcx_branch.proofs.Rooms.{FitBox, root_fits}
use Rattle.dcx_branch.proofs.Found.{place_marked, root_nested, at_least_nested}
use Rattle.dcx_branch.proofs.OneRun.{heads, tails, none_open}
use Rattle.dcx_branch.proofs.Completes as completes
use Rattle.dcx_branch.proofs.Turns as turns

-- ---- the boxes that are open
one_box : (P : Box → Type 0) (a : Box) → P a → Each P (a ∷ [])
one_box P a h zero b e = subst P (same_Some a b e) h
one_box P a h (suc i) b e = absurd (none-some b e)

two_boxes : (P : Box → Type 0) (a b : Box) (rest : List Box) → P a → P b → Each P rest → Each P (a ∷ b ∷ rest)
two_boxes P a b rest h k l zero c e = subst P (same_Some a c e) h
two_boxes P a b rest h k l (suc zero) c e = subst P (same_Some b c e) k
two_boxes P a b rest h k l (suc (suc i)) c e = l i c e

-- what is known of a state, where these are the nodes so far: the best point is whole, and the nodes are those of a tree once each open
-- box has its own
pub record IsSound (p : Problem) (s : Setting) (q : Program Frac) (a : State) (nodes : List BranchNode) : Type 0 where
  pub held : HoldsWhole p s a.best
  pub completes : Completes p s nodes a.open_boxes (best_value a.best)
  pub nested : Each (IsNested p) a.open_boxes
  pub fits : Each FitBox a.open_boxes
  pub placed : IsPlaced p q a.open_boxes

module _ (p : Problem) (s : Setting) (q : Program Frac) (limit : ℕ) (given : IsReducedAt p s q) where
  -- ---- one node more
  module _ (a : State) (nodes : List BranchNode) (h : IsSound p s q a nodes) (box : Box) (rest : List Box) (first : a.open_boxes ≡ box ∷ rest)
      (solved : Solved) (known : HasKinds (node_rows q (bounds_in p box))) (is : IsNode p q limit box solved) where
    listed : Completes p s nodes (box ∷ rest) (best_value a.best)
    listed = subst (λ boxes. Completes p s nodes boxes (best_value a.best)) first h.completes

    nested : Each (IsNested p) (box ∷ rest)
    nested = subst (Each (IsNested p)) first h.nested

    fits : Each FitBox (box ∷ rest)
    fits = subst (Each FitBox) first h.fits

    placed : IsPlaced p q (box ∷ rest)
    placed = subst (IsPlaced p q) first h.placed

    placed_rest : IsPlaced p q rest
    placed_rest = elim placed [
      | inl e ↦ inr (inl (tails box (root_box p) rest [] e))
      | inr k ↦ elim k [ inl e ↦ absurd (none_open box rest (sym e)) | inr f ↦ inr (inr f) ]
    ]

    one_more : (turn : Turn) (node : BranchNode) → TurnsOut (places p.variables) (best_value a.best) solved.program solved.answer turn → IsListed p q box solved turn node →
        IsSound p s q (after box rest a.best a.taken solved.program solved.answer turn) (nodes ++ node ∷ [])
    one_more Cut node out leaf =
        let tree = turns.cut_tree p s q limit given box (fits 0 box refl) solved known is (best_value a.best) node out leaf in
        record {
          held = h.held;
          completes = completes.leaf p s nodes box rest (best_value a.best) (best_value a.best) node tree.tree tree.lists tree.shows listed;
          nested = λ i. nested (suc i);
          fits = λ i. fits (suc i);
          placed = placed_rest;
        }
    one_more Found node out leaf =
        let tree = turns.found_tree p s q limit given box (fits 0 box refl) solved known is (best_value a.best) node out leaf in
        record {
          held = turns.found_best p s q limit given box (fits 0 box refl) solved known is (best_value a.best) (nested 0 box refl) out;
          completes = completes.leaf p s nodes box rest (best_value a.best) (Some (value solved.answer.number)) node tree.tree tree.lists tree.shows listed;
          nested = λ i. nested (suc i);
          fits = λ i. fits (suc i);
          placed = placed_rest;
        }
    one_more (Divided place n) node out same =
        let fit = fits 0 box refl in
        let own = nested 0 box refl in
        let below = at_most box place.variable place.entry n in
        let above = at_least box place.variable place.entry (n +ℤ pos 1) in
        subst (λ (m : BranchNode). IsSound p s q (after box rest a.best a.taken solved.program solved.answer (Divided place n)) (nodes ++ m ∷ [])) (sym same) (record {
          held = h.held;
          completes = completes.sides p s nodes box rest (best_value a.best) place.variable place.entry n (place_marked p place (out.2.position, out.2.there)) listed;
          nested = two_boxes (IsNested p) below above rest (turns.below_nested p s q limit given box fit solved known is (best_value a.best) place n out own)
              (at_least_nested p box place.variable place.entry (n +ℤ pos 1) own) (λ i. nested (suc i));
          fits = two_boxes FitBox below above rest (turns.below_fits p s q limit given box fit solved known is (best_value a.best) place n out)
              (turns.above_fits p s q limit given box fit solved known is (best_value a.best) place n out) (λ i. fits (suc i));
          placed = elim placed [
            | inl e ↦ inr (inr (turns.floor_there p s q limit given box fit solved known is (best_value a.best) place n out (heads box (root_box p) rest [] e)))
            | inr k ↦ elim k [ inl e ↦ absurd (none_open box rest (sym e)) | inr f ↦ inr (inr f) ]
          ];
        })

  -- ---- all nodes
  begun : IsSound p s q (start p) []
  begun = record {
    held = tt;
    completes = completes.begun p s;
    nested = one_box (IsNested p) (root_box p) (root_nested p);
    fits = one_box FitBox (root_box p) (root_fits p);
    placed = inl refl;
  }

  stepped : (a b : State) (nodes : List BranchNode) (node : BranchNode) → IsSound p s q a nodes → (step : Steps p q limit a b) → IsListed p q step.box step.solved step.turn node
      → IsSound p s q b (nodes ++ node ∷ [])
  stepped a b nodes node h step is =
      subst (λ (c : State). IsSound p s q c (nodes ++ node ∷ [])) (sym step.next)
      (one_more a nodes h step.box step.rest step.first step.solved step.known step.node step.turn node step.turns is)

  pub sound : (a : State) (nodes : List BranchNode) → Takes p q limit a nodes → IsSound p s q a nodes
  sound _ _ no_node = begun
  sound b _ (one_node a _ nodes node before step is) = stepped a b nodes node (sound a nodes before) step is

  -- ---- the end
  right_none : (tree : List BranchNode) (count : ℕ) → EndsWith p q limit None count tree → IsRightFor p s (Infeasible tree count)
  right_none tree count h =
      let end = sound _ tree h in
      let shows = completes.ended p s tree None end.completes in
      (trees_show_none p s shows.tree shows.shows, shows)

  right_at : (number : Frac) (point : Pairs) (tree : List BranchNode) (count : ℕ) → EndsAt p q limit number point tree count → IsRightFor p s (Optimal number point tree count)
  right_at number point tree count h =
      let end = sound _ tree h.ends in
      let shows = completes.ended p s tree (Some h.best.value) end.completes in
      let whole = end.held.whole point h.point_is in
      let now = subst (λ v. Shows p s (Some v) tree) (sym h.number_is) shows in
      let bound = trees_bound p s h.best.value (root_box p) shows.tree shows.shows (point_of p point) whole (root_has_all p s (point_of p point) whole) in
      let same = ≤ℚ_antisym (≤ℚ_trans (end.held.low point h.point_is) (≤ℚ-from_≡ (sym h.number_is))) (≤ℚ_trans (≤ℚ-from_≡ h.number_is) bound) in
      (trees_show_optima p s (value number) (point_of p point) now.tree whole same now.shows, now)

pub runs_are_right : RunsAreRight
runs_are_right p s q limit allowed (Optimal number point tree nodes) given h = right_at p s q limit given number point tree nodes h.1
runs_are_right p s q limit allowed (Infeasible tree nodes) given h = right_none p s q limit given tree nodes h.1
