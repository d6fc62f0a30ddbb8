-- Answers of a node's linear program are leaves of its box.
use Rattle.std.proofs.Common.{◌≡◌, ℕ, suc, ◌+◌, arith, Bool, true, false, if◌then◌else◌, IsTrue, List, [], ◌∷◌, length, map, All}
use Rattle.std.proofs.Common.{Option, Some, option_map, slice_get, refl, sym, ap, ap₂, ◌∙◌, subst, ℤ, pos, add-zero}
use Rattle.std.proofs.lemmas.List.Elements.{All-cons, All-nil}
use Rattle.std.proofs.lemmas.Option.{slice_get-map}
use Rattle.dcx_math.specs.Rational.{ℚ, whole, ◌+ℚ◌, ◌-ℚ◌, ◌*ℚ◌, ◌≤ℚ◌}
use Rattle.dcx_math.specs.Sums.{IsNonnegative}
use Rattle.dcx_math.proofs.Orders.{≤ℚ_trans, ≤ℚ-from_≡}
use Rattle.dcx_convex.specs.Nodes.{Point, Setting}
use Rattle.dcx_convex.specs.Rules.{Rules}
use Rattle.dcx_convex.specs.Problems.{accepted_by}
use Rattle.dcx_tree.specs.declared.problem.Problem.{Problem}
use Rattle.dcx_tree.specs.Meaning.{convex_problem, Fits, IsInDomain, IsFeasible, objective_at, lagrangian}
use Rattle.dcx_linear.specs.Rows.{LinearProgram, HaveSigns, combined_from}
use Rattle.dcx_postsolve.specs.Programs.{bound_row, multipliers_of}
use Rattle.dcx_postsolve.proofs.Rows.{AllFrom, IsSigned}
use Rattle.dcx_graph.specs.AsLinear.{IsReductionAt}
use Rattle.dcx_graph.proofs.Backward.{well_formed}
use Rattle.dcx_right.specs.Boxes.{Box}
use Rattle.dcx_right.specs.Trees.{Weight, over, all_exceeded, MayShow, penalty}
use Rattle.dcx_branch.specs.declared.bound.BoundAt.{BoundAt}
use Rattle.dcx_branch.specs.Nodes.{excess, bound_number, node_program, IsBoundOf, weights_from, NodesShow, AnswersAreLeaves}
use Rattle.dcx_branch.proofs.Lifting as lifting
use Rattle.dcx_branch.proofs.Entries.{entry_unknown, lifted_entry}

-- ---- multipliers of bounds
-- a multiplier times what a bound is exceeded by
one_exceeded : (upper : Bool) (up low : Option ℤ) (n : ℤ) (w x : ℚ) → (if upper then up else low) ≡ Some n →
    (if upper then over (λ k. w *ℚ (x -ℚ whole k)) up else over (λ k. w *ℚ (whole k -ℚ x)) low) ≡ w *ℚ excess upper n x
one_exceeded true up low n w x e = ap (over (λ k. w *ℚ (x -ℚ whole k))) e
one_exceeded false up low n w x e = ap (over (λ k. w *ℚ (whole k -ℚ x))) e

weights_signed : (m : ℕ → ℚ) (i : ℕ) (bs : List BoundAt) → AllFrom (IsSigned m) i (map bound_row (map bound_number bs)) → All (λ (w : Weight). IsNonnegative w.weight) (weights_from m i bs)
weights_signed m i [] h = All-nil (λ (w : Weight). IsNonnegative w.weight)
weights_signed m i (b ∷ bs) h =
    All-cons (λ (w : Weight). IsNonnegative w.weight) _ (weights_from m (suc i) bs)
    (subst (λ n. whole (pos 0) ≤ℚ m n) (add-zero i) (h 0 (bound_row (bound_number b)) refl refl))
    (weights_signed m (suc i) bs (λ l r e s. let q : i + suc l ≡ suc i + l = omega arith in subst (λ n. whole (pos 0) ≤ℚ m n) q (h (suc l) r e s)))

module _ (rules : Rules) (p : Problem) (s : Setting) (l : LinearProgram) (box : Box) (bs : List BoundAt) (ok : IsTrue (accepted_by rules (convex_problem p))) (fit : Fits p s)
    (is : IsReductionAt rules p s l)
    (each : (i : ℕ) (b : BoundAt) → slice_get bs i ≡ Some b → IsBoundOf p box b) where
  -- the rows of bounds at the unknowns of a point are what the bounds are exceeded by there
  exceeded_is : (y : Point) → IsInDomain p y → (m : ℕ → ℚ) (i : ℕ) (cs : List BoundAt) → ((k : ℕ) (b : BoundAt) → slice_get cs k ≡ Some b → IsBoundOf p box b) →
      combined_from m i (map bound_row (map bound_number cs)) (is.reduction.lift y) ≡ all_exceeded box (weights_from m i cs) y
  exceeded_is y dom m i [] h = refl
  exceeded_is y dom m i (b ∷ cs) h =
      let here = h 0 b refl in
      let same = lifted_entry rules p s l is y (is.reduction.lift y) (is.reduction.lifts y dom) b.place.variable b.place.entry b.place.unknown here.variable here.entry.variable here.entry.entry
      here.unknown in
      ap₂ ◌+ℚ◌
      (ap (λ u. m i *ℚ excess b.upper b.limit u) same
      ∙ sym (one_exceeded b.upper (box b.place.variable b.place.entry).upper (box b.place.variable b.place.entry).lower b.limit (m i) (y b.place.variable b.place.entry) here.limit))
      (exceeded_is y dom m (suc i) cs (λ k. h (suc k)))

  may_show : (m : ℕ → ℚ) → HaveSigns (node_program l bs) m → MayShow p (record { duals = multipliers_of (convex_problem p) m; bounds = weights_from m (length l.rows) bs })
  may_show m h = record {
    duals = lifting.signed rules p s ok fit (well_formed p) l is (map bound_number bs) m h;
    bounds = weights_signed m (length l.rows) bs (lifting.extra_signed rules p s ok fit (well_formed p) l is (map bound_number bs) m h);
  }

  pub nodes_show : NodesShow p s l box bs
  nodes_show = record {
    bound = λ v x m h. record {
      multipliers = may_show m h.signs;
      bound = λ y dom. subst (λ e. v ≤ℚ lagrangian p s y (multipliers_of (convex_problem p) m) +ℚ e) (exceeded_is y dom m (length l.rows) bs each)
          (lifting.optimal_bound rules p s ok fit (well_formed p) l is (map bound_number bs) v x m h y dom);
    };
    empty = λ g m h. record {
      positive = h.positive;
      multipliers = may_show m h.signs;
      bound = λ y dom. subst (λ e. g ≤ℚ penalty p s y (multipliers_of (convex_problem p) m) +ℚ e) (exceeded_is y dom m (length l.rows) bs each)
          (lifting.infeasible_bound rules p s ok fit (well_formed p) l is (map bound_number bs) g m h y dom);
    };
    feasible = λ v x m h. subst (λ (y : Point). IsFeasible p s y) (is.point x) (lifting.optimal_shows rules p s ok fit (well_formed p) l is (map bound_number bs) v x m h).projects.feasible;
    objective = λ v x m h. subst (λ (y : Point). objective_at p s y ≤ℚ v) (is.point x)
        (≤ℚ_trans (lifting.optimal_shows rules p s ok fit (well_formed p) l is (map bound_number bs) v x m h).projects.below (≤ℚ-from_≡ (sym (is.program.objective x) ∙ h.attained)));
    kept = λ v x m h i b at.
        let bound = each i b at in
        let row = (lifting.optimal_shows rules p s ok fit (well_formed p) l is (map bound_number bs) v x m h).kept i (bound_number b)
        (slice_get-map bound_number bs i ∙ ap (option_map bound_number) at) in
        subst (λ q. excess b.upper b.limit q ≤ℚ whole (pos 0))
        (sym (entry_unknown p x b.place.variable b.place.entry b.place.unknown bound.variable bound.entry.variable bound.entry.entry bound.unknown)) row;
  }

pub answers_are_leaves : AnswersAreLeaves
answers_are_leaves rules p s l box bs ok fit is each = nodes_show rules p s l box bs ok fit is each
