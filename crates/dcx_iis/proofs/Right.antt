-- What the steps show of the problem: which sets are impossible, and that whatever is found is right.
use Rattle.std.proofs.Common.{◌≢◌, ◌↔◌, ℕ, zero, suc, ◌<◌, ◌≤◌, arith, Bool, IsTrue, List, [], ◌∷◌, All, length, refl, sym, ap, subst}
use Rattle.std.specs.Prelude.{nat_eq, not, ◌||◌}
use Rattle.std.proofs.lemmas.Bool.{and_from, or_right, eq-eqb, ne_eqb}
use Rattle.std.proofs.lemmas.List.Elements.{All-nil, All-cons, All-weaker}
use Rattle.dcx_frac.specs.declared.fraction.Frac.{Frac}
use Rattle.dcx_frac.specs.Frac.{value}
use Rattle.dcx_atom.specs.declared.array.Array.{Array}
use Rattle.dcx_point.specs.Pairs.{Pairs}
use Rattle.dcx_convex.specs.Nodes.{Setting}
use Rattle.dcx_tree.specs.declared.problem.Problem.{Problem}
use Rattle.dcx_tree.specs.Meaning.{IsInfeasible}
use Rattle.dcx_lp_answer.specs.declared.answer.LpStatus.{LpStatus}
use Rattle.dcx_lp_answer.specs.declared.answer.LpStatus.TheVariants as status
use Rattle.dcx_lp_answer.specs.declared.answer.LpAnswer.{LpAnswer}
use Rattle.dcx_postsolve.specs.Duals.{AreDuals}
use Rattle.dcx_right.specs.Answers.{multipliers_in}
use Rattle.dcx_right.specs.ConstraintSets.{ConstraintSet, every_constraint, set_of, IsImpossible, left_beside, IsFilterSet}
use Rattle.dcx_right.specs.Filters.{IsFeasiblePoint, KeepsOthers, IsIrreducible}
use Rattle.dcx_right.proofs.ConstraintSets.{within_beside}
use Rattle.dcx_graph.specs.Program.{Program}
use Rattle.dcx_graph.specs.Answers.{IsReducedAt}
use Rattle.dcx_answer.specs.declared.filtered.Filtered.TheVariants as filtered
use Rattle.dcx_iis.specs.Steps.{kept_of, IsStep, IsShownImpossible, IsDecided, HasAnswer, IsReadAt}
use Rattle.dcx_iis.specs.Multipliers.{AreSpread}
use Rattle.dcx_iis.specs.Found.{IsPossible, AreFound}
use Rattle.dcx_iis.specs.Laws.{FoundIsRight}
use Rattle.dcx_iis.proofs.Shown.{not_impossible, point_domain, point_keeps, shown_impossible, duals_show}
use Rattle.dcx_iis.proofs.Flags.{zip_weaker}

-- each of some numbers is in their set
all_among : (ms : List ℕ) → All (λ m. IsTrue (set_of ms m)) ms
all_among [] = All-nil (λ m. IsTrue (set_of [] m))
all_among (m ∷ ms) =
    All-cons (λ k. IsTrue (set_of (m ∷ ms) k)) m ms (ap (λ (t : Bool). t || set_of ms m) (eq-eqb m m refl))
    (All-weaker (λ k. IsTrue (set_of ms k)) (λ k. IsTrue (set_of (m ∷ ms) k)) (λ k t. or_right (nat_eq k m) (set_of ms k) t) ms (all_among ms))

module _ (p : Problem) (q : Program Frac) (limit : ℕ) where
  -- all steps have answers
  pub answers_before : (set : ConstraintSet) (n : ℕ) → (answer : LpAnswer) × IsShownImpossible p q limit every_constraint answer → ((k : ℕ) → k < n → IsDecided p q limit set k)
      → (i : ℕ) → i ≤ n → HasAnswer p q limit set i
  answers_before set n (answer, (solved, step, e, same)) decided zero l = (solved, step.is_solved)
  answers_before set n first decided (suc k) l = let d = decided k (omega (arith, l)) in (d.solved, d.is_step.is_solved)

  module _ (s : Setting) (is : IsReducedAt p s q) where
    pub impossible_of : (set : ConstraintSet) → (answer : LpAnswer) × IsShownImpossible p q limit set answer → IsImpossible p s set
    impossible_of set (answer, (solved, step, e, same)) = shown_impossible p q limit set solved step s is e

    pub stays_of : (set : ConstraintSet) (k : ℕ) → IsDecided p q limit set k → IsTrue (set k) ↔ ¬ IsImpossible p s (left_beside set k)
    stays_of set k d = (
      λ t. not_impossible p q limit (left_beside set k) d.solved d.is_step s is (d.stays.0 t),
      λ n. d.stays.1 (λ e. n (shown_impossible p q limit (left_beside set k) d.solved d.is_step s is e)),
    )

    -- ---- a feasible point
    point_right : (point : Pairs) → IsPossible p q limit point → IsFeasiblePoint p s point
    point_right point h =
        let keeps = point_keeps p q limit every_constraint h.solved h.is_step s is h.some point h.read in
        record {
          domain = point_domain p q limit every_constraint h.solved h.is_step s is h.some point h.read;
          feasible = record { domain = keeps.domain; holds = λ k c at j l. keeps.keeps k refl c at j l };
        }

    -- ---- constraints that no point keeps together
    module _ (members : List ℕ) (duals : List Array) (gap : Frac) (points : List Pairs) (found : AreFound p q limit members duals gap points) where
      filter_set : IsFilterSet p s (set_of members)
      filter_set = record { impossible = impossible_of every_constraint found.first; stay = λ k b. stays_of (set_of members) k (found.decided k b) }

      each : All (λ k. (k < length p.constraints) × IsTrue (set_of members k)) members
      each = λ i d b. (found.within i d b, all_among members i d b)

      keeps_others : (k : ℕ) (point : Pairs) → k < length p.constraints → IsTrue (set_of members k) → IsReadAt p q limit (set_of members) k point → KeepsOthers p s members k point
      keeps_others k point b t r =
          let d = found.decided k b in
          let step : IsStep p q limit (left_beside (set_of members) k) r.solved = record { known = d.is_step.known; is_solved = r.is_solved } in
          let some : r.solved.answer.status ≢ status.Infeasible = λ e. (stays_of (set_of members) k d).0 t (shown_impossible p q limit (left_beside (set_of members) k) r.solved step s is e) in
          let keeps = point_keeps p q limit (left_beside (set_of members) k) r.solved step s is some point r.read in
          record {
            domain = point_domain p q limit (left_beside (set_of members) k) r.solved step s is some point r.read;
            keeps = λ i u ne. keeps.keeps i (within_beside p s (set_of members) k i (and_from (set_of members i) (not (nat_eq i k)) u (ap not (ne_eqb i k ne))));
          }

      spread : AreSpread (set_of members) p.constraints (kept_of (set_of members) duals) duals
      spread = record { shaped = found.shaped; kept = refl; zeros = found.others }

      shows : IsInfeasible p s (multipliers_in duals) (value gap)
      shows =
          let (solved, step, none, same) = found.shown in
          let cs = kept_of (set_of members) p.constraints in
          let ds = kept_of (set_of members) duals in
          let here : AreDuals status.Infeasible cs solved.answer.rows ds = subst (λ (a : LpAnswer). AreDuals status.Infeasible cs a.rows ds) same found.formed in
          let are : AreDuals solved.answer.status cs solved.answer.rows ds = subst (λ (t : LpStatus). AreDuals t cs solved.answer.rows ds) (sym none) here in
          subst (λ (g : Frac). IsInfeasible p s (multipliers_in duals) (value g)) (sym found.gap_is)
          (subst (λ (a : LpAnswer). IsInfeasible p s (multipliers_in duals) (value a.number)) (sym same)
          (duals_show p q limit (set_of members) solved step s is none ds duals are spread))

      irreducible : IsIrreducible p s members duals gap points
      irreducible = record {
        filter = filter_set;
        rising = found.rising;
        within = found.within;
        shown = shows;
        shaped = found.shaped;
        outside = found.others;
        others_kept = zip_weaker (λ k. (k < length p.constraints) × IsTrue (set_of members k)) (IsReadAt p q limit (set_of members)) (KeepsOthers p s members)
            (λ k point b r. keeps_others k point b.0 b.1 r) members points each found.read;
      }

pub found_is_right : FoundIsRight
found_is_right p s q limit (filtered.Feasible point) is found = point_right p q limit s is point found
found_is_right p s q limit (filtered.Infeasible members duals gap points) is found = irreducible p q limit s is members duals gap points found
