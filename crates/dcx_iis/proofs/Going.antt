-- What is left when one more constraint is tried.
use Rattle.std.proofs.Common.{◌≡◌, Some, ℕ, suc, ◌+◌, ◌<◌, ◌≤◌, arith, Bool, true, false, IsTrue, List, [], ◌∷◌, ◌++◌, length, take, set}
use Rattle.std.proofs.Common.{replicate, inl, inr, refl, sym, ap, ◌∙◌, subst, ⊎_elim, get_or-set_other, length-take-le}
use Rattle.std.specs.List.{AllZip}
use Rattle.std.proofs.lemmas.Bool.{cases_lt, false≢true}
use Rattle.std.proofs.lemmas.List.{length-set, length-replicate}
use Rattle.dcx_frac.specs.declared.fraction.Frac.{Frac}
use Rattle.dcx_point.specs.Pairs.{Pairs}
use Rattle.dcx_tree.specs.declared.problem.Problem.{Problem}
use Rattle.dcx_answer.specs.declared.site.Site.TheVariants as sites
use Rattle.dcx_answer.specs.declared.stop.Stop.TheVariants as stops
use Rattle.dcx_right.specs.ConstraintSets.{ConstraintSet, every_constraint, left_beside}
use Rattle.dcx_right.proofs.ConstraintSets.{beside_same, beside_itself, beside_behind}
use Rattle.dcx_lp_answer.specs.declared.answer.LpStatus.{LpStatus}
use Rattle.dcx_lp_answer.specs.declared.answer.LpAnswer.{LpAnswer}
use Rattle.dcx_lp_answer.specs.declared.stop.MultiplierStop.{MultiplierStop}
use Rattle.dcx_lp_answer.specs.declared.stop.MultiplierStop.TheVariants as multipliers
use Rattle.dcx_lp_answer.specs.Multipliers.{passing_from, StopsAt}
use Rattle.dcx_postsolve.specs.Duals.{all_multipliers}
use Rattle.dcx_lp_solve.specs.declared.stop.SolveStop.{SolveStop}
use Rattle.dcx_lp_solve.specs.declared.stop.SolveStop.TheVariants as solves
use Rattle.dcx_lp_solve.specs.Solved.{IsSolved, Stops}
use Rattle.dcx_graph.specs.Program.{Program}
use Rattle.dcx_answer.specs.declared.filter_stop.FilterStop.{FilterStop}
use Rattle.dcx_answer.specs.declared.filter_stop.FilterStop.TheVariants as filter
use Rattle.dcx_iis.specs.declared.trying.Tried.TheVariants as tried
use Rattle.dcx_iis.specs.declared.left.Left.{Left}
use Rattle.dcx_iis.specs.Steps.{flagged, kept_of, program_of_set, step_set, IsStep, IsShownImpossible, IsDecided, IsReadAt}
use Rattle.dcx_iis.specs.Runs.{IsTried, step_stop, StopsTry, numbers_from, IsLeft, StopsRun}
use Rattle.dcx_iis.proofs.Flags.{flagged_all, flagged_cleared, flags_restored, numbers_stay, numbers_cleared, numbers_below, zip_push, zip_weaker}

-- the stop at a multiplier
abbrev pub forming_stop : ℕ → MultiplierStop → FilterStop
forming_stop step (multipliers.Wide row passes) = filter.Step step (stops.Wide (sites.Answer row passes))
forming_stop step multipliers.Memory = filter.Memory

module _ (p : Problem) (q : Program Frac) (limit : ℕ) where
  -- ---- sets that agree on the constraints before one
  pub decided_same : (a b : ConstraintSet) (k : ℕ) → left_beside a k ≡ left_beside b k → b k ≡ a k → IsDecided p q limit a k → IsDecided p q limit b k
  decided_same a b k beside here d = record {
    solved = d.solved;
    is_step = subst (λ set. IsStep p q limit set d.solved) beside d.is_step;
    stays = (λ t. d.stays.0 (sym here ∙ t), λ n. here ∙ d.stays.1 n);
  }

  pub read_same : (a b : ConstraintSet) (k : ℕ) (point : Pairs) → left_beside a k ≡ left_beside b k → IsReadAt p q limit a k point → IsReadAt p q limit b k point
  read_same a b k point beside r = record {
    solved = r.solved;
    is_solved = subst (λ set. IsSolved limit (program_of_set p q set) r.solved) beside r.is_solved;
    read = r.read;
  }

  -- ---- one step
  -- the stop of its program is its own
  pub stops_try : (set : ConstraintSet) (step : ℕ) (e : SolveStop) → Stops limit (program_of_set p q set) e → StopsTry p q limit set step (step_stop step e)
  stops_try set step (solves.TooLarge r c) h = (refl, solves.TooLarge r c, λ e. cc, h, refl)
  stops_try set step (solves.Wide site) h = (refl, solves.Wide site, λ e. cc, h, refl)
  stops_try set step (solves.PivotLimit n) h = (refl, solves.PivotLimit n, λ e. cc, h, refl)
  stops_try set step solves.Memory h = tt

  -- ---- the first step
  -- it stops
  pub first_stops : (flags : List Bool) (e : FilterStop) → flags ≡ replicate (length p.constraints) true → StopsTry p q limit (flagged flags) 0 e → StopsRun p q limit e
  first_stops flags (filter.Step step stop) all (number, inner, some, stops, told) =
      let same : step_set every_constraint step ≡ flagged flags = ap (step_set every_constraint) number ∙ sym (flagged_all flags (length p.constraints) all) in
      inl (record {
        set = every_constraint;
        within = omega (arith, number);
        first = λ b. absurd (omega (arith, number, b));
        decided = λ k b. absurd (omega (arith, number, b));
        inner = inner;
        some = some;
        stops = subst (λ set. Stops limit (program_of_set p q set) inner) (sym same) stops;
        told = told;
      })
  first_stops flags filter.Memory all h = tt

  -- all constraints are impossible
  pub first_left : (flags : List Bool) (answer : LpAnswer) (l : Left) → flags ≡ replicate (length p.constraints) true → IsTried p q limit (flagged flags) (tried.Impossible answer) →
      l.kept.items ≡ flags → l.answer ≡ answer → l.step ≡ 0 → l.points.items ≡ [] → IsLeft p q limit 0 l
  first_left flags answer l all (solved, step, (status, same)) kept is_answer is_step none =
      let every : flagged l.kept.items ≡ every_constraint = ap flagged kept ∙ flagged_all flags (length p.constraints) all in
      let start : IsStep p q limit every_constraint solved = subst (λ set. IsStep p q limit set solved) (flagged_all flags (length p.constraints) all) step in
      let shown : IsShownImpossible p q limit every_constraint l.answer = (solved, start, status, is_answer ∙ same) in
      record {
        flags = ap length (kept ∙ all) ∙ length-replicate (length p.constraints) true;
        later = λ k h. ap (λ (set : ConstraintSet). set k) every;
        first = (l.answer, shown);
        decided = λ k h. absurd (omega (arith, h));
        shown = subst (λ set. IsShownImpossible p q limit set l.answer) (sym every) shown;
        last = record {
          within = omega (arith, is_step);
          left_out = λ k e. absurd (omega (arith, e, is_step));
          stay = λ k h b. absurd (omega (arith, b));
        };
        points = subst (AllZip (IsReadAt p q limit (flagged l.kept.items)) []) (sym none) tt;
      }

  module _ (i : ℕ) (l : Left) (is : IsLeft p q limit i l) (there : i < length p.constraints) where
    abbrev before : ConstraintSet
    before = flagged l.kept.items

    within : i < length l.kept.items
    within = let n = is.flags in omega (arith, n, there)

    cleared : flagged (set l.kept.items i false) ≡ left_beside (flagged l.kept.items) i
    cleared = flagged_cleared l.kept.items i within is.later

    stays : IsTrue (flagged l.kept.items i)
    stays = is.later i (omega arith)

    -- ---- the step stops
    pub try_stops : (e : FilterStop) → StopsTry p q limit (flagged (set l.kept.items i false)) (i + 1) e → StopsRun p q limit e
    try_stops (filter.Step step stop) (number, inner, some, stops, told) =
        let same : step_set (flagged l.kept.items) step ≡ flagged (set l.kept.items i false) =
        ap (step_set (flagged l.kept.items)) (let e : step ≡ suc i = omega (arith, number) in e) ∙ sym cleared in
        inl (record {
          set = flagged l.kept.items;
          within = omega (arith, number, there);
          first = λ b. is.first;
          decided = λ k b. is.decided k (omega (arith, number, b));
          inner = inner;
          some = some;
          stops = subst (λ set. Stops limit (program_of_set p q set) inner) (sym same) stops;
          told = told;
        })
    try_stops filter.Memory h = tt

    -- ---- the constraint stays
    pub left_with : (point : Pairs) (m : Left) → IsTried p q limit (flagged (set l.kept.items i false)) (tried.Possible point) →
        m.kept.items ≡ set (set l.kept.items i false) i true → m.answer ≡ l.answer → m.step ≡ l.step → m.points.items ≡ l.points.items ++ point ∷ [] → IsLeft p q limit (i + 1) m
    left_with point m (solved, step, (found, read)) kept answer number points =
        let same : m.kept.items ≡ l.kept.items = kept ∙ flags_restored l.kept.items i stays in
        let here : IsStep p q limit (left_beside (flagged l.kept.items) i) solved = subst (λ set. IsStep p q limit set solved) cleared step in
        let own : IsDecided p q limit (flagged l.kept.items) i = record { solved = solved; is_step = here; stays = (λ t. found, λ n. stays) } in
        let own_read : IsReadAt p q limit (flagged l.kept.items) i point = record { solved = solved; is_solved = here.is_solved; read = read } in
        let more : AllZip (IsReadAt p q limit (flagged l.kept.items)) (numbers_from 0 (take (i + 1) l.kept.items)) (l.points.items ++ point ∷ []) =
        subst (λ xs. AllZip (IsReadAt p q limit (flagged l.kept.items)) xs (l.points.items ++ point ∷ []))
        (sym (numbers_stay l.kept.items i within stays) ∙ ap (λ n. numbers_from 0 (take n l.kept.items)) (let e : suc i ≡ i + 1 = omega arith in e))
        (zip_push (IsReadAt p q limit (flagged l.kept.items)) (numbers_from 0 (take i l.kept.items)) l.points.items i point is.points own_read) in
        let old = is.last in
        record {
          flags = ap length same ∙ is.flags;
          later = λ k h. ap (λ flags. flagged flags k) same ∙ is.later k (omega (arith, h));
          first = is.first;
          decided = λ k h. subst (λ flags. IsDecided p q limit (flagged flags) k) (sym same)
              (⊎_elim (λ b. is.decided k b) (λ b. subst (IsDecided p q limit (flagged l.kept.items)) (let e : i ≡ k = omega (arith, h, b) in e) own) (cases_lt k i));
          shown = subst (λ flags. IsShownImpossible p q limit (flagged flags) m.answer) (sym same) (subst (IsShownImpossible p q limit (flagged l.kept.items)) (sym answer) is.shown);
          last = record {
            within = let w = old.within in omega (arith, w, number);
            left_out = λ k e t. old.left_out k (sym number ∙ e) (ap (λ flags. flagged flags k) (sym same) ∙ t);
            stay = λ k a b. ap (λ flags. flagged flags k) same ∙
                ⊎_elim (λ c. old.stay k (omega (arith, a, number)) c) (λ c. subst (λ n. IsTrue (flagged l.kept.items n)) (let e : i ≡ k = omega (arith, b, c) in e) stays) (cases_lt k i);
          };
          points = subst (λ flags. AllZip (IsReadAt p q limit (flagged flags)) (numbers_from 0 (take (i + 1) flags)) m.points.items) (sym same)
              (subst (AllZip (IsReadAt p q limit (flagged l.kept.items)) (numbers_from 0 (take (i + 1) l.kept.items))) (sym points) more);
        }

    -- ---- the constraint is left out
    after_before : (k : ℕ) → k < i → flagged (set l.kept.items i false) k ≡ flagged l.kept.items k
    after_before k h = get_or-set_other l.kept.items i k false true (λ e. omega (arith, e, h))

    beside_after : (k : ℕ) → k ≤ i → left_beside (flagged l.kept.items) k ≡ left_beside (flagged (set l.kept.items i false)) k
    beside_after k h = beside_same (flagged l.kept.items) (flagged (set l.kept.items i false)) k (λ j b. sym (after_before j (omega (arith, h, b))))

    pub left_without : (answer : LpAnswer) (m : Left) → IsTried p q limit (flagged (set l.kept.items i false)) (tried.Impossible answer) →
        m.kept.items ≡ set l.kept.items i false → m.answer ≡ answer → m.step ≡ i + 1 → m.points.items ≡ l.points.items → IsLeft p q limit (i + 1) m
    left_without answer m (solved, step, (none, same_answer)) kept answer_is number points =
        let flags = set l.kept.items i false in
        let gone : flagged flags i ≡ false = ap (λ (set : ConstraintSet). set i) cleared ∙ beside_itself (flagged l.kept.items) i in
        let here : IsStep p q limit (left_beside (flagged flags) i) solved = subst (λ set. IsStep p q limit set solved) (cleared ∙ beside_after i (omega arith)) step in
        let own : IsDecided p q limit (flagged flags) i = record { solved = solved; is_step = here; stays = (λ t. absurd (false≢true (sym gone ∙ t)), λ n. absurd (n none)) } in
        let rest : AllZip (IsReadAt p q limit (flagged flags)) (numbers_from 0 (take i l.kept.items)) l.points.items =
        zip_weaker (λ k. k < i) (IsReadAt p q limit (flagged l.kept.items)) (IsReadAt p q limit (flagged flags))
        (λ k x b r. read_same (flagged l.kept.items) (flagged flags) k x (beside_after k (omega (arith, b))) r)
        (numbers_from 0 (take i l.kept.items)) l.points.items
        (numbers_below 0 i (take i l.kept.items) (let n = length-take-le i l.kept.items (omega (arith, within)) in omega (arith, n))) is.points in
        record {
          flags = ap length kept ∙ length-set l.kept.items i false ∙ is.flags;
          later = λ k h. ap (λ f. flagged f k) kept ∙ ap (λ (set : ConstraintSet). set k) cleared ∙ beside_behind (flagged l.kept.items) i k (omega (arith, h));
          first = is.first;
          decided = λ k h. subst (λ f. IsDecided p q limit (flagged f) k) (sym kept)
              (⊎_elim (λ b. decided_same (flagged l.kept.items) (flagged flags) k (beside_after k (omega (arith, b))) (after_before k b) (is.decided k b))
              (λ b. subst (IsDecided p q limit (flagged flags)) (let e : i ≡ k = omega (arith, h, b) in e) own) (cases_lt k i));
          shown = subst (λ f. IsShownImpossible p q limit (flagged f) m.answer) (sym kept) (solved, step, none, answer_is ∙ same_answer);
          last = record {
            within = omega (arith, number);
            left_out = λ k e t. false≢true (sym gone ∙ ap (flagged flags) (let q : i ≡ k = omega (arith, number, e) in q) ∙ ap (λ f. flagged f k) (sym kept) ∙ t);
            stay = λ k a b. absurd (omega (arith, number, a, b));
          };
          points = subst (λ f. AllZip (IsReadAt p q limit (flagged f)) (numbers_from 0 (take (i + 1) f)) m.points.items) (sym kept)
              (subst (AllZip (IsReadAt p q limit (flagged flags)) (numbers_from 0 (take (i + 1) flags))) (sym points)
              (subst (λ xs. AllZip (IsReadAt p q limit (flagged flags)) xs l.points.items)
              (sym (numbers_cleared l.kept.items i within) ∙ ap (λ n. numbers_from 0 (take n flags)) (let e : suc i ≡ i + 1 = omega arith in e)) rest));
        }

  -- ---- the end
  -- a multiplier of what is left passes
  pub forming_stops : (l : Left) → IsLeft p q limit (length p.constraints) l → (e : MultiplierStop)
      → StopsAt e (passing_from 0 (all_multipliers l.answer.status (kept_of (flagged l.kept.items) p.constraints) l.answer.rows))
      → StopsRun p q limit (forming_stop l.step e)
  forming_stops l is (multipliers.Wide row passes) first =
      let (solved, step, none, same) = is.shown in
      inr (record {
        set = flagged l.kept.items;
        first = is.first;
        decided = is.decided;
        last = is.last;
        answer = l.answer;
        shown = is.shown;
        row = row;
        passes = passes;
        passing = subst (λ (t : LpStatus). passing_from 0 (all_multipliers t (kept_of (flagged l.kept.items) p.constraints) l.answer.rows) ≡ Some (row, passes))
            (ap (λ (a : LpAnswer). a.status) same ∙ none) first;
        told = refl;
      })
  forming_stops l is multipliers.Memory first = tt
