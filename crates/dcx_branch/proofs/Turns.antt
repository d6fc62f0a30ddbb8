-- What a node that is taken shows of its box: the tree of a leaf, a best point, and what its two sides are.
use Rattle.std.proofs.Common.{◌≡◌, inl, inr, ℕ, ◌+◌, ◌≤◌, arith, List, [], ◌∷◌, length, map, Option, Some, None, sym, subst}
use Rattle.std.specs.Prelude.{ℤ, pos, ◌+ℤ◌}
use Rattle.std.specs.List.{All}
use Rattle.std.proofs.lemmas.Option.{none-some, same_Some}
use Rattle.dcx_math.specs.Rational.{ℚ, ◌≤ℚ◌}
use Rattle.dcx_math.proofs.Orders.{≤ℚ_refl, ≤ℚ_trans, ≤ℚ-from_≡, <ℚ-≤ℚ}
use Rattle.dcx_frac.specs.declared.fraction.Frac.{Frac}
use Rattle.dcx_frac.specs.Frac.{value}
use Rattle.dcx_frac.specs.Fits.{Fits}
use Rattle.dcx_atom.specs.declared.array.Array.{Array}
use Rattle.dcx_convex.specs.Nodes.{Setting}
use Rattle.dcx_tree.specs.declared.problem.Problem.{Problem}
use Rattle.dcx_linear.specs.FormTerms.{Unknowns}
use Rattle.dcx_linear.specs.Rows.{IsOptimal, IsUnbounded}
use Rattle.dcx_lp_answer.specs.declared.answer.LpAnswer.{LpAnswer}
use Rattle.dcx_lp_answer.specs.declared.answer.LpStatus.{LpStatus}
use Rattle.dcx_lp_answer.specs.declared.answer.LpStatus.TheVariants as status
use Rattle.dcx_lp_answer.specs.Right.{multiplier_at, IsRight}
use Rattle.dcx_std.specs.Solutions.{HasKinds, unknowns_at, linear_program}
use Rattle.dcx_lp_solve.specs.declared.solving.Solved.{Solved}
use Rattle.dcx_lp_solve.proofs.Right.{answers_are_right}
use Rattle.dcx_graph.specs.Program.{Program}
use Rattle.dcx_graph.specs.Answers.{rows_of, IsReducedAt}
use Rattle.dcx_right.specs.Boxes.{Box, root_box, IsWithin, at_most, at_least}
use Rattle.dcx_right.specs.Trees as trees
use Rattle.dcx_right.specs.Trees.{Shown, Tree, IsTreeOf, BoundsBelow, BoundsBy, ShowsEmpty}
use Rattle.dcx_right.specs.WholeAnswers.{shown_by, Lists, bound, empty}
use Rattle.dcx_branch.specs.declared.place.Place.{Place}
use Rattle.dcx_branch.specs.declared.bound.BoundAt.{BoundAt}
use Rattle.dcx_answer.specs.declared.branch_tree.BoundWeight.{BoundWeight}
use Rattle.dcx_answer.specs.declared.branch_tree.BranchNode.{BranchNode}
use Rattle.dcx_answer.specs.declared.branch_tree.BranchNode.TheVariants.{Bound, Empty, Split}
use Rattle.dcx_branch.specs.Places.{places}
use Rattle.dcx_branch.specs.Rows.{node_rows}
use Rattle.dcx_branch.specs.Nodes.{node_program}
use Rattle.dcx_branch.specs.Leaves.{IsLeaf, IsLeafOf}
use Rattle.dcx_branch.specs.Run.{IsPruned, IsBetter, unknowns_in, Cut, Found, Divided, TurnsOut, bounds_in, IsNode}
use Rattle.dcx_branch.proofs.Known.{IsBelow, IsNested, HasFloor, IsWholeBest}
use Rattle.dcx_branch.proofs.Members.{Each}
use Rattle.dcx_branch.proofs.Bounds.{each_bound, kept_within}
use Rattle.dcx_branch.proofs.Rooms.{FitBox, all_fit, at_most_fits, at_least_fits}
use Rattle.dcx_branch.proofs.Found.{at_most_nested}
use Rattle.dcx_branch.proofs.Completes.{below_worse}
use Rattle.dcx_branch.proofs.Shown as shown
use Rattle.dcx_branch.proofs.Told.{notes_count}
use Rattle.dcx_branch.proofs.Splits.{split_fits}
use Rattle.dcx_branch.proofs.Floors.{root_floor, of_bounds}
use Rattle.dcx_branch.proofs.Marks.{whole_point, same_objective}

-- ---- trees of leaves
-- a leaf bounds by each value that is at most one that its own isn't below
bounded_by : (p : Problem) (s : Setting) (box : Box) (w best : Option ℚ) (v : ℚ) (m : Shown) → IsPruned best v → BoundsBelow p s box v m → IsBelow w best → BoundsBy p s box w m
bounded_by p s box w None v m low h k = absurd low
bounded_by p s box None (Some b) v m low h k = absurd k
bounded_by p s box (Some c) (Some b) v m low h k = record { multipliers = h.multipliers; bound = λ y dom. ≤ℚ_trans (≤ℚ_trans k low) (h.bound y dom) }

better_below : (best : Option ℚ) (v : ℚ) → IsBetter best v → (b : ℚ) → best ≡ Some b → v ≤ℚ b
better_below None v h b e = absurd (none-some b e)
better_below (Some c) v h b e = subst (λ x. v ≤ℚ x) (same_Some c b e) (<ℚ-≤ℚ h)

optimal_infeasible : (t : LpStatus) → t ≡ status.Optimal → t ≡ status.Infeasible → ⊥
optimal_infeasible t h k = cc

-- a leaf is a tree of its box for each value that is at most the best one after it, which is at most the one before
pub record HasTree (p : Problem) (s : Setting) (box : Box) (after best : Option ℚ) (leaf : BranchNode) : Type 0 where
  pub tree : Tree
  pub lists : Lists (leaf ∷ []) tree
  pub shows : (w : Option ℚ) → IsBelow w after → IsBelow w best × IsTreeOf p s w box tree

module _ (p : Problem) (s : Setting) (q : Program Frac) (limit : ℕ) (given : IsReducedAt p s q) (box : Box) (fit : FitBox box)
    (solved : Solved) (known : HasKinds (node_rows q (bounds_in p box))) (is : IsNode p q limit box solved) where
  abbrev bs : List BoundAt
  bs = bounds_in p box

  abbrev a : LpAnswer
  a = solved.answer

  abbrev x : Unknowns
  x = unknowns_in solved.program solved.answer

  fitting : All (λ (b : BoundAt). Fits b.limit) bs
  fitting = all_fit (places p.variables) box fit

  right : IsRight solved.program a
  right = answers_are_right limit (node_rows q bs) solved is

  enough : length q.rows + length bs ≤ length solved.answer.rows
  enough = let count = notes_count q limit bs solved is in omega (arith, count)

  optimal : a.status ≡ status.Optimal → IsOptimal (node_program (linear_program (rows_of q)) bs) (value a.number) x (multiplier_at solved.program.columns a)
  optimal e = shown.optimal p s q given box bs (each_bound p box) fitting known solved.program a is.made right e

  leaf_bounds : (duals : List Array) (bounds : List BoundWeight) → a.status ≡ status.Optimal → IsLeaf p a (length q.rows) bs duals bounds → BoundsBelow p s box (value a.number) (shown_by duals bounds)
  leaf_bounds duals bounds e leaf = shown.leaf_bounds p s q given box bs (each_bound p box) fitting known solved.program a is.made right e enough duals bounds leaf

  leaf_empty : (duals : List Array) (bounds : List BoundWeight) → a.status ≡ status.Infeasible → IsLeaf p a (length q.rows) bs duals bounds
      → ShowsEmpty p s box (shown_by duals bounds) (value a.number)
  leaf_empty duals bounds e leaf = shown.leaf_empty p s q given box bs (each_bound p box) fitting known solved.program a is.made right e enough duals bounds leaf

  within : a.status ≡ status.Optimal → Each (λ (k : Place). IsWithin (box k.variable k.entry) (x k.unknown)) (places p.variables)
  within e = kept_within x (places p.variables) box (of_bounds p q x bs (optimal e).solution)

  -- ---- the tree of a leaf
  -- one without a better point
  pub cut_tree : (best : Option ℚ) (leaf : BranchNode) → TurnsOut (places p.variables) best solved.program a Cut → IsLeafOf p a (length q.rows) bs leaf → HasTree p s box best best leaf
  cut_tree best (Bound duals bounds) turns listed = elim turns [
    | inl h ↦ absurd (optimal_infeasible a.status listed.0 h)
    | inr h ↦ record {
      tree = trees.Bound (shown_by duals bounds);
      lists = bound duals bounds;
      shows = λ w low. (low, bounded_by p s box w best (value a.number) (shown_by duals bounds) h.1 (leaf_bounds duals bounds listed.0 listed.1) low);
    }
  ]
  cut_tree best (Empty duals bounds gap) turns listed = record {
    tree = trees.Empty (shown_by duals bounds) (value gap);
    lists = empty duals bounds gap;
    shows = λ w low. (low, subst (λ (g : Frac). ShowsEmpty p s box (shown_by duals bounds) (value g)) (sym listed.1) (leaf_empty duals bounds listed.0 listed.2));
  }
  cut_tree best (Split k j n) turns listed = absurd listed

  -- one with a better point
  pub found_tree : (best : Option ℚ) (leaf : BranchNode) → TurnsOut (places p.variables) best solved.program a Found → IsLeafOf p a (length q.rows) bs leaf
      → HasTree p s box (Some (value a.number)) best leaf
  found_tree best (Bound duals bounds) turns listed = record {
    tree = trees.Bound (shown_by duals bounds);
    lists = bound duals bounds;
    shows = λ w low. (
      below_worse w best (value a.number) (better_below best (value a.number) turns.1) low,
      bounded_by p s box w (Some (value a.number)) (value a.number) (shown_by duals bounds) (≤ℚ_refl (value a.number)) (leaf_bounds duals bounds listed.0 listed.1) low,
    );
  }
  found_tree best (Empty duals bounds gap) turns listed = absurd (optimal_infeasible a.status turns.0 listed.0)
  found_tree best (Split k j n) turns listed = absurd listed

  -- the best point of a leaf
  pub found_best : (best : Option ℚ) → IsNested p box → TurnsOut (places p.variables) best solved.program a Found → IsWholeBest p s (record { value = value a.number; unknowns = x })
  found_best best nested turns =
      let feasible = shown.feasible p s q given box bs (each_bound p box) fitting known solved.program a is.made right turns.0 in
      let low = shown.no_greater p s q given box bs (each_bound p box) fitting known solved.program a is.made right turns.0 in
      record {
        whole = λ point at. whole_point p s x turns.2 box nested (within turns.0) feasible point at;
        low = λ point at. ≤ℚ_trans (≤ℚ-from_≡ (sym (same_objective p s x turns.2 box nested (within turns.0) feasible point at))) low;
      }

  -- ---- the two sides of a split
  module _ (best : Option ℚ) (place : Place) (n : ℤ) (turns : TurnsOut (places p.variables) best solved.program a (Divided place n)) where
    pub below_nested : IsNested p box → IsNested p (at_most box place.variable place.entry n)
    below_nested nested = at_most_nested p box place.variable place.entry n (x place.unknown) (within turns.0 turns.2.position place turns.2.there).upper turns.2.between.above nested

    pub below_fits : FitBox (at_most box place.variable place.entry n)
    below_fits = at_most_fits box place.variable place.entry n (split_fits q limit bs solved is place.unknown n turns.2.between).this fit

    pub above_fits : FitBox (at_least box place.variable place.entry (n +ℤ pos 1))
    above_fits = at_least_fits box place.variable place.entry (n +ℤ pos 1) (split_fits q limit bs solved is place.unknown n turns.2.between).following fit

    -- a node with two sides leaves a floor, where it is the root
    pub floor_there : box ≡ root_box p → HasFloor p q
    floor_there e =
        root_floor p q (value a.number) x (multiplier_at solved.program.columns a)
        (subst (λ (b : Box). IsOptimal (node_program (linear_program (rows_of q)) (bounds_in p b)) (value a.number) x (multiplier_at solved.program.columns a)) e (optimal turns.0))

  -- ---- a node without an end
  pub falls : a.status ≡ status.Unbounded → IsUnbounded (node_program (linear_program (rows_of q)) bs) x (unknowns_at solved.program.columns (map value a.ray)) (value a.number) (value a.slope)
  falls e = shown.unbounded p s q given box bs (each_bound p box) fitting known solved.program a is.made right e
