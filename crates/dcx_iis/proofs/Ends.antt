-- The laws: programs tell of their sets, and the filter has one end.
use Rattle.std.proofs.Common.{◌≡◌, ◌≢◌, ◌⊎◌, ℕ, zero, suc, ◌<◌, ◌≤◌, arith, List, length, inl, inr, refl, sym, ap, ◌∙◌, subst}
use Rattle.std.proofs.lemmas.Bool.{cases_order}
use Rattle.std.proofs.lemmas.Option.{none-some, same_Some}
use Rattle.dcx_frac.specs.declared.fraction.Frac.{Frac}
use Rattle.dcx_frac.specs.declared.fraction.Passes.{Passes}
use Rattle.dcx_atom.specs.declared.array.Array.{Array}
use Rattle.dcx_point.specs.Pairs.{Pairs}
use Rattle.dcx_convex.specs.Nodes.{Setting}
use Rattle.dcx_tree.specs.declared.constraint.Constraint.{Constraint}
use Rattle.dcx_tree.specs.declared.problem.Problem.{Problem}
use Rattle.dcx_tree.specs.Meaning.{point_of}
use Rattle.dcx_right.specs.ConstraintSets.{ConstraintSet, every_constraint, set_of, KeepsSet, StayBelow, IsFilterSet}
use Rattle.dcx_right.specs.Filters.{IsFeasiblePoint}
use Rattle.dcx_right.proofs.ConstraintSets.{beside_same, one_filter_set, same_below}
use Rattle.dcx_lp_answer.specs.declared.answer.LpStatus.TheVariants as status
use Rattle.dcx_lp_answer.specs.declared.answer.LpAnswer.{LpAnswer}
use Rattle.dcx_lp_answer.specs.Multipliers.{passing_from}
use Rattle.dcx_answer.specs.declared.stop.Stop.{Stop}
use Rattle.dcx_answer.specs.declared.stop.Stop.TheVariants as stops
use Rattle.dcx_answer.specs.declared.site.Site.TheVariants as sites
use Rattle.dcx_postsolve.specs.Duals.{all_multipliers}
use Rattle.dcx_postsolve.proofs.DualLaws.{are_one}
use Rattle.dcx_lp_solve.specs.declared.solving.Solved.{Solved}
use Rattle.dcx_lp_solve.specs.declared.stop.SolveStop.{SolveStop}
use Rattle.dcx_lp_solve.specs.declared.stop.SolveStop.TheVariants as solves
use Rattle.dcx_lp_solve.specs.Solved.{IsSolved, Stops}
use Rattle.dcx_lp_solve.specs.Stops.{run_stop}
use Rattle.dcx_lp_solve.proofs.OneSolution as one
use Rattle.dcx_graph.specs.Program.{Program}
use Rattle.dcx_answer.specs.declared.filtered.Filtered.TheVariants as filtered
use Rattle.dcx_iis.specs.Steps.{kept_of, program_of_set, step_set, HasAnswer, IsLastImpossible, StopsInStep, StopsAtMultiplier, StopsAt, in_step, at_multiplier}
use Rattle.dcx_iis.specs.Found.{IsPossible, AreFound}
use Rattle.dcx_iis.specs.Laws.{ProgramsTell, FoundOrStopped, StopsAreOne}
use Rattle.dcx_iis.proofs.Kept.{kept_same}
use Rattle.dcx_iis.proofs.Right.{answers_before, found_is_right}
use Rattle.dcx_iis.proofs.Telling.{only, solution_keeps, infeasible_only, only_impossible, program_same}
use Rattle.dcx_postsolve.specs.Programs.{multipliers_of}

pub programs_tell : ProgramsTell
programs_tell p s q set is = record {
  kept = λ x h. solution_keeps p s q is set x h;
  impossible = λ gap m h. only_impossible p s q is set (multipliers_of (only p set) m) gap (infeasible_only p s q is set gap m h);
}

-- ---- one end
module _ (p : Problem) (s : Setting) (q : Program Frac) (limit : ℕ) where
  solved_apart : (set : ConstraintSet) (solved : Solved) (e : SolveStop) → e ≢ solves.Memory → IsSolved limit (program_of_set p q set) solved → Stops limit (program_of_set p q set) e → ⊥
  solved_apart set solved e n h k = n (one.solved_or_stopped limit (program_of_set p q set) solved e h k)

  -- steps whose sets agree before the constraint that is tried have the same
  step_same : (a b : ConstraintSet) (i : ℕ) → ((k : ℕ) → suc k ≡ i → (j : ℕ) → j < k → a j ≡ b j) → step_set a i ≡ step_set b i
  step_same a b zero h = refl
  step_same a b (suc k) h = beside_same a b k (h k refl)

  -- a step that has an answer doesn't stop
  answer_apart : (a b : ConstraintSet) (i : ℕ) → step_set a i ≡ step_set b i → HasAnswer p q limit a i → (e : SolveStop) → e ≢ solves.Memory → Stops limit (program_of_set p q (step_set b i)) e → ⊥
  answer_apart a b i same (solved, h) e n k = solved_apart (step_set a i) solved e n h (subst (λ set. Stops limit (program_of_set p q set) e) (sym same) k)

  -- the last step that was impossible is one
  last_apart : (n : ℕ) (a b : ConstraintSet) (i j : ℕ) → ((k : ℕ) → k < n → a k ≡ b k) → IsLastImpossible n a i → IsLastImpossible n b j → i < j → ⊥
  last_apart n a b i zero same h k l = omega (arith, l)
  last_apart n a b i (suc j) same h k l =
      let w = k.within in
      k.left_out j refl (sym (same j (omega (arith, w))) ∙ h.stay j (omega (arith, l)) (omega (arith, w)))

  last_same : (n : ℕ) (a b : ConstraintSet) (i j : ℕ) → ((k : ℕ) → k < n → a k ≡ b k) → IsLastImpossible n a i → IsLastImpossible n b j → i ≡ j
  last_same n a b i j same h k = by (cases_order i j)
    where
      by : (i ≡ j) ⊎ ((i < j) ⊎ (j < i)) → i ≡ j
      by (inl e) = e
      by (inr (inl l)) = absurd (last_apart n a b i j same h k l)
      by (inr (inr l)) = absurd (last_apart n b a j i (λ m c. sym (same m c)) k h l)

  -- programs of sets that agree have one answer
  one_answer : (a b : ConstraintSet) (x y : Solved) → ((k : ℕ) → k < length p.constraints → a k ≡ b k) → IsSolved limit (program_of_set p q a) x → IsSolved limit (program_of_set p q b) y
      → x.answer ≡ y.answer
  one_answer a b x y same h k = (one.answers_are_one limit (program_of_set p q a) x y h (subst (λ rows. IsSolved limit rows y) (sym (program_same p q a b same)) k)).answer

  -- ---- a step that stops
  module _ (step : ℕ) (stop : Stop) (h : StopsInStep p s q limit step stop) where
    -- the set of the step is that of each set that stays as long
    stays_same : (set : ConstraintSet) (n : ℕ) → step ≤ n → ((k : ℕ) → suc k ≡ step → StayBelow p s k set) → step_set h.set step ≡ step_set set step
    stays_same set n w stay = step_same h.set set step (λ k e j l. same_below p s h.set set k (h.stay k e) (stay k e) j l)

    -- where all steps of a set that stays so have answers, none stops
    answered_apart : (set : ConstraintSet) → ((k : ℕ) → suc k ≡ step → StayBelow p s k set) → HasAnswer p q limit set step → ⊥
    answered_apart set stay answer = answer_apart set h.set step (sym (stays_same set step (omega arith) stay)) answer h.inner h.some h.stops

  of_filter : (step : ℕ) (set : ConstraintSet) → step ≤ length p.constraints → IsFilterSet p s set → (k : ℕ) → suc k ≡ step → StayBelow p s k set
  of_filter step set w f k e j l = f.stay j (omega (arith, w, e, l))

  stay_earlier : (j : ℕ) (set : ConstraintSet) → ((k : ℕ) → suc k ≡ j → StayBelow p s k set) → (i : ℕ) → i < j → (n : ℕ) → suc n ≡ i → StayBelow p s n set
  stay_earlier zero set stay i l n e = absurd (omega (arith, l))
  stay_earlier (suc m) set stay i l n e = λ j b. stay m refl j (omega (arith, l, e, b))

  step_apart : (i j : ℕ) (stop also : Stop) → StopsInStep p s q limit i stop → StopsInStep p s q limit j also → i < j → ⊥
  step_apart i j stop also h k l = answered_apart i stop h k.set (stay_earlier j k.set k.stay i l) (k.before i l)

  multiplier_apart : (i j : ℕ) (stop also : Stop) → StopsInStep p s q limit i stop → StopsAtMultiplier p s q limit j also → ⊥
  multiplier_apart i j stop also h m = answered_apart i stop h m.set (of_filter i m.set h.within m.filter) (m.answers i h.within)

  -- one stop in a step
  same_inner : (i : ℕ) (stop also : Stop) → StopsInStep p s q limit i stop → StopsInStep p s q limit i also → stop ≡ also
  same_inner i stop also h k =
      let sets = stays_same i stop h k.set i (omega arith) k.stay in
      h.told ∙ ap run_stop (one.stops_are_one limit (program_of_set p q (step_set h.set i)) h.inner k.inner h.stops
      (subst (λ set. Stops limit (program_of_set p q set) k.inner) (sym sets) k.stops) h.some k.some) ∙ sym k.told

  same_step : (i j : ℕ) (stop also : Stop) → StopsInStep p s q limit i stop → StopsInStep p s q limit j also → (i ≡ j) × (stop ≡ also)
  same_step i j stop also h k = by (cases_order i j)
    where
      by : (i ≡ j) ⊎ ((i < j) ⊎ (j < i)) → (i ≡ j) × (stop ≡ also)
      by (inl e) = (e, same_inner i stop also h (subst (λ n. StopsInStep p s q limit n also) (sym e) k))
      by (inr (inl l)) = absurd (step_apart i j stop also h k l)
      by (inr (inr l)) = absurd (step_apart j i also stop k h l)

  -- one first multiplier that passes
  same_multiplier : (i j : ℕ) (stop also : Stop) → StopsAtMultiplier p s q limit i stop → StopsAtMultiplier p s q limit j also → (i ≡ j) × (stop ≡ also)
  same_multiplier i j stop also h k =
      let sets = one_filter_set p s h.set k.set h.filter k.filter in
      let answers = one_answer h.set k.set h.solved k.solved sets h.is_solved k.is_solved in
      let cs = kept_same h.set k.set 0 p.constraints (λ m a b. sets m (omega (arith, b))) in
      let first = sym h.first ∙ ap (λ (xs : List Constraint). passing_from 0 (all_multipliers status.Infeasible xs h.solved.answer.rows)) cs
      ∙ ap (λ (a : LpAnswer). passing_from 0 (all_multipliers status.Infeasible (kept_of k.set p.constraints) a.rows)) answers ∙ k.first in (
        last_same (length p.constraints) h.set k.set i j sets h.last k.last,
        h.told ∙ ap (λ (x : ℕ × Passes). stops.Wide (sites.Answer x.0 x.1)) (same_Some (h.row, h.passes) (k.row, k.passes) first) ∙ sym k.told,
      )

  one_stop : (i j : ℕ) (stop also : Stop) → StopsAt p s q limit i stop → StopsAt p s q limit j also → (i ≡ j) × (stop ≡ also)
  one_stop i j stop also (in_step h) (in_step k) = same_step i j stop also h k
  one_stop i j stop also (in_step h) (at_multiplier k) = absurd (multiplier_apart i j stop also h k)
  one_stop i j stop also (at_multiplier h) (in_step k) = absurd (multiplier_apart j i also stop k h)
  one_stop i j stop also (at_multiplier h) (at_multiplier k) = same_multiplier i j stop also h k

  -- ---- what is found has no stop
  keeps_all : (point : Pairs) → IsFeasiblePoint p s point → KeepsSet p s every_constraint (point_of p point)
  keeps_all point f = record { domain = f.feasible.domain; keeps = λ k t c at j l. f.feasible.holds k c at j l }

  point_apart : (step : ℕ) (stop : Stop) (point : Pairs) → IsFeasiblePoint p s point → IsPossible p q limit point → StopsAt p s q limit step stop → ⊥
  point_apart zero stop point f r (in_step h) = answer_apart every_constraint h.set zero refl (r.solved, r.is_step.is_solved) h.inner h.some h.stops
  point_apart (suc k) stop point f r (in_step h) = h.impossible (omega arith) (point_of p point) (keeps_all point f)
  point_apart step stop point f r (at_multiplier h) = h.filter.impossible (point_of p point) (keeps_all point f)

  members_apart : (step : ℕ) (stop : Stop) (members : List ℕ) (duals : List Array) (gap : Frac) (points : List Pairs) → IsFilterSet p s (set_of members) →
      AreFound p q limit members duals gap points → StopsAt p s q limit step stop → ⊥
  members_apart step stop members duals gap points f found (in_step h) =
      answered_apart step stop h (set_of members) (of_filter step (set_of members) h.within f) (answers_before p q limit (set_of members)
      (length p.constraints) found.first found.decided step h.within)
  members_apart step stop members duals gap points f found (at_multiplier h) =
      let (solved, is_step, infeasible, same) = found.shown in
      let sets = one_filter_set p s h.set (set_of members) h.filter f in
      let answers = one_answer h.set (set_of members) h.solved solved sets h.is_solved is_step.is_solved ∙ sym same in
      let cs = kept_same h.set (set_of members) 0 p.constraints (λ m a b. sets m (omega (arith, b))) in
      let none = (are_one status.Infeasible (kept_of (set_of members) p.constraints) found.answer.rows).none_passes (kept_of (set_of members) duals) found.formed in
      none-some (h.row, h.passes)
      (sym none ∙ ap (λ (a : LpAnswer). passing_from 0 (all_multipliers status.Infeasible (kept_of (set_of members) p.constraints) a.rows)) (sym answers)
      ∙ ap (λ (xs : List Constraint). passing_from 0 (all_multipliers status.Infeasible xs h.solved.answer.rows)) (sym cs) ∙ h.first)

pub found_or_stopped : FoundOrStopped
found_or_stopped p s q limit step (filtered.Feasible point) stop is found h = point_apart p s q limit step stop point (found_is_right p s q limit (filtered.Feasible point) is found) found h
found_or_stopped p s q limit step (filtered.Infeasible members duals gap points) stop is found h =
    members_apart p s q limit step stop members duals gap points (found_is_right p s q limit (filtered.Infeasible members duals gap points) is found).filter found h

pub stops_are_one : StopsAreOne
stops_are_one p s q limit step other stop also h k = one_stop p s q limit step other stop also h k
