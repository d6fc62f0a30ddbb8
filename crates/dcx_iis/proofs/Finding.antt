-- What the code comes to is what is found, or what stops.
use Rattle.std.proofs.Common.{◌≡◌, ℕ, zero, suc, ◌<◌, ◌≤◌, arith, Bool, true, List, [], ◌∷◌, All, length, replicate, inl, inr, refl, sym, ap, ◌∙◌, subst, ⊎_elim, pos, Some}
use Rattle.std.specs.Prelude.{◌^◌, sum_by}
use Rattle.std.specs.List.{AllZip}
use Rattle.std.proofs.lemmas.Bool.{cases_lt}
use Rattle.std.proofs.lemmas.List.{take_all}
use Rattle.dcx_math.specs.Rational.{whole}
use Rattle.dcx_frac.specs.declared.fraction.Frac.{Frac}
use Rattle.dcx_atom.specs.declared.array.Array.{Array}
use Rattle.dcx_point.specs.Pairs.{Pairs}
use Rattle.dcx_convex.specs.Nodes.{Setting}
use Rattle.dcx_tree.specs.declared.constraint.Constraint.{Constraint}
use Rattle.dcx_tree.specs.declared.problem.Problem.{Problem}
use Rattle.dcx_lp_answer.specs.declared.answer.LpStatus.{LpStatus}
use Rattle.dcx_lp_answer.specs.declared.answer.LpStatus.TheVariants as status
use Rattle.dcx_lp_answer.specs.declared.answer.LpAnswer.{LpAnswer}
use Rattle.dcx_lp_answer.specs.Multipliers.{passing_from}
use Rattle.dcx_std.specs.Solutions.{HasKinds}
use Rattle.dcx_unknowns.specs.Layout.{constraint_rows}
use Rattle.dcx_postsolve.specs.Duals.{all_multipliers, AreDuals}
use Rattle.dcx_right.specs.Answers.{multipliers_in}
use Rattle.dcx_right.specs.ConstraintSets.{ConstraintSet, every_constraint, set_of, left_beside}
use Rattle.dcx_right.specs.Filters.{HasShapeOf}
use Rattle.dcx_right.proofs.ConstraintSets.{beside_same}
use Rattle.dcx_lp_solve.specs.Solved.{IsSolved}
use Rattle.dcx_graph.specs.Program.{Program}
use Rattle.dcx_answer.specs.declared.filter_stop.FilterStop.{FilterStop}
use Rattle.dcx_answer.specs.declared.filter_stop.FilterStop.TheVariants as filter
use Rattle.dcx_answer.specs.declared.filtered.Filtered.{Filtered}
use Rattle.dcx_answer.specs.declared.filtered.Filtered.TheVariants as filtered
use Rattle.dcx_iis.specs.declared.trying.Tried.TheVariants as tried
use Rattle.dcx_iis.specs.declared.left.Left.{Left}
use Rattle.dcx_iis.specs.Steps.{flagged, kept_of, IsStep, IsShownImpossible, HasAnswer, IsReadAt, in_step, at_multiplier, StopsFilter}
use Rattle.dcx_graph.specs.Answers.{IsReducedAt}
use Rattle.dcx_iis.specs.Found.{IsPossible, AreFound, IsFound}
use Rattle.dcx_iis.specs.Multipliers.{AreSpread}
use Rattle.dcx_iis.specs.Runs.{IsTried, numbers_from, IsLeft, IsEnd, StopsTrying, StopsRun}
use Rattle.dcx_iis.proofs.Kept.{kept_same}
use Rattle.dcx_iis.proofs.Telling.{program_same}
use Rattle.dcx_iis.proofs.Shown.{zip_length, rows_noted, rows_few}
use Rattle.dcx_iis.proofs.Flags.{flagged_all, numbers_below, numbers_rise, among_is, zip_weaker}
use Rattle.dcx_iis.proofs.Going.{decided_same, read_same}
use Rattle.dcx_iis.proofs.Right.{answers_before, impossible_of, stays_of}

-- beyond its arrays a list has no multipliers
past_duals : (ys : List Array) (k j : ℕ) → length ys ≤ k → multipliers_in ys k j ≡ whole (pos 0)
past_duals [] k j l = refl
past_duals (y ∷ ys) zero j l = absurd (omega (arith, l))
past_duals (y ∷ ys) (suc k) j l = past_duals ys k j (omega (arith, l))

module _ (p : Problem) (q : Program Frac) (limit : ℕ) where
  -- the steps before one that stops have answers
  before_try : (step : ℕ) (stop : _) (h : StopsTrying p q limit step stop) (i : ℕ) → i < step → HasAnswer p q limit h.set i
  before_try step stop h zero l = let (answer, (solved, is, e, same)) = h.first l in (solved, is.is_solved)
  before_try step stop h (suc k) l = let d = h.decided k l in (d.solved, d.is_step.is_solved)

  module _ (s : Setting) (is : IsReducedAt p s q) where
    -- ---- stops
    pub tells_stop : (e : FilterStop) → StopsRun p q limit e → StopsFilter p s q limit e
    tells_stop (filter.Step step stop) (inl h) = in_step (record {
      set = h.set;
      within = h.within;
      impossible = λ b. impossible_of p q limit s is every_constraint (h.first b);
      stay = λ k e j l. stays_of p q limit s is h.set j (h.decided j (omega (arith, e, l)));
      before = before_try step stop h;
      inner = h.inner;
      some = h.some;
      stops = h.stops;
      told = h.told;
    })
    tells_stop (filter.Step step stop) (inr h) =
        let (solved, is_step, none, same) = h.shown in
        at_multiplier (record {
          set = h.set;
          filter = record { impossible = impossible_of p q limit s is every_constraint h.first; stay = λ k l. stays_of p q limit s is h.set k (h.decided k l) };
          answers = answers_before p q limit h.set (length p.constraints) h.first h.decided;
          last = h.last;
          solved = solved;
          is_solved = is_step.is_solved;
          row = h.row;
          passes = h.passes;
          first = subst (λ (a : LpAnswer). passing_from 0 (all_multipliers status.Infeasible (kept_of h.set p.constraints) a.rows) ≡ Some (h.row, h.passes)) same h.passing;
          told = h.told;
        })
    tells_stop filter.Memory h = tt

    -- ---- what is left once all constraints are tried
    module _ (l : Left) (left : IsLeft p q limit (length p.constraints) l) where
      -- the notes of the rows of what is left are there, and are few
      pub left_noted : sum_by constraint_rows (kept_of (flagged l.kept.items) p.constraints) ≤ length l.answer.rows
      left_noted =
          let (solved, step, none, same) = left.shown in
          subst (λ (a : LpAnswer). sum_by constraint_rows (kept_of (flagged l.kept.items) p.constraints) ≤ length a.rows) (sym same) (rows_noted p q limit (flagged l.kept.items) solved step s is)

      pub left_few : length l.answer.rows < 2 ^ 32
      left_few =
          let (solved, step, none, same) = left.shown in
          subst (λ (a : LpAnswer). length a.rows < 2 ^ 32) (sym same) (rows_few p q limit (flagged l.kept.items) solved step)

  -- ---- a feasible point
  pub point_found : (flags : List Bool) (point : Pairs) → flags ≡ replicate (length p.constraints) true → IsTried p q limit (flagged flags) (tried.Possible point) → IsPossible p q limit point
  point_found flags point all (solved, step, (some, read)) =
      record { solved = solved; is_step = subst (λ set. IsStep p q limit set solved) (flagged_all flags (length p.constraints) all) step; some = some; read = read }

  -- ---- constraints that no point keeps together
  module _ (l : Left) (left : IsLeft p q limit (length p.constraints) l) where
    abbrev kept : ConstraintSet
    kept = flagged l.kept.items

    abbrev members : List ℕ
    members = numbers_from 0 l.kept.items

    agree : (k : ℕ) → k < length p.constraints → set_of members k ≡ kept k
    agree k b = let n = left.flags in among_is l.kept.items k (omega (arith, n, b))

    within : All (λ k. k < length p.constraints) members
    within = let n = left.flags in numbers_below 0 (length p.constraints) l.kept.items (omega (arith, n))

    beside : (k : ℕ) → k ≤ length p.constraints → left_beside kept k ≡ left_beside (set_of members) k
    beside k b = beside_same kept (set_of members) k (λ i c. sym (agree i (omega (arith, b, c))))

    points_read : AllZip (IsReadAt p q limit kept) members l.points.items
    points_read = let n = left.flags in subst (λ flags. AllZip (IsReadAt p q limit kept) (numbers_from 0 flags) l.points.items) (take_all (length p.constraints) l.kept.items
        (omega (arith, n))) left.points

    module _ (duals : List Array) (made : (ds : List Array) × AreDuals l.answer.status (kept_of kept p.constraints) l.answer.rows ds × AreSpread kept p.constraints ds duals) where
      duals_count : length duals ≡ length p.constraints
      duals_count = sym (zip_length HasShapeOf p.constraints duals made.2.shaped)

      shown_there : IsShownImpossible p q limit (set_of members) l.answer
      shown_there =
          let (solved, step, none, same) = left.shown in
          let rows = program_same p q kept (set_of members) (λ k b. sym (agree k b)) in (
            solved,
            record { known = subst HasKinds rows step.known; is_solved = subst (λ g. IsSolved limit g solved) rows step.is_solved },
            none,
            same,
          )

      duals_formed : AreDuals status.Infeasible (kept_of (set_of members) p.constraints) l.answer.rows (kept_of (set_of members) duals)
      duals_formed =
          let (solved, step, none, same) = left.shown in
          let n = duals_count in
          let cs = kept_same kept (set_of members) 0 p.constraints (λ k a b. sym (agree k (omega (arith, b)))) in
          let ys = sym made.2.kept ∙ kept_same kept (set_of members) 0 duals (λ k a b. sym (agree k (omega (arith, n, b)))) in
          subst (λ (xs : List Array). AreDuals status.Infeasible (kept_of (set_of members) p.constraints) l.answer.rows xs) ys
          (subst (λ (xs : List Constraint). AreDuals status.Infeasible xs l.answer.rows made.0) cs
          (subst (λ (t : LpStatus). AreDuals t (kept_of kept p.constraints) l.answer.rows made.0) (ap (λ (a : LpAnswer). a.status) same ∙ none) made.1))

      are_found : AreFound p q limit members duals l.answer.number l.points.items
      are_found = record {
        rising = numbers_rise 0 l.kept.items;
        within = within;
        first = left.first;
        decided = λ k b. decided_same p q limit kept (set_of members) k (beside k (omega (arith, b))) (agree k b) (left.decided k b);
        step = l.step;
        last = record {
          within = left.last.within;
          left_out = λ k e t. left.last.left_out k e (sym (agree k (let w = left.last.within in omega (arith, w, e))) ∙ t);
          stay = λ k a b. agree k b ∙ left.last.stay k a b;
        };
        answer = l.answer;
        shown = shown_there;
        gap_is = refl;
        formed = duals_formed;
        shaped = made.2.shaped;
        others = λ k t j. ⊎_elim (λ b. made.2.zeros k (λ u. t (agree k b ∙ u)) j) (λ b. let n = duals_count in past_duals duals k j (omega (arith, n, b))) (cases_lt k (length p.constraints));
        read = zip_weaker (λ k. k < length p.constraints) (IsReadAt p q limit kept) (IsReadAt p q limit (set_of members))
            (λ k point b r. read_same p q limit kept (set_of members) k point (beside k (omega (arith, b))) r) members l.points.items within points_read;
      }

    -- what is told is how it was found
    pub end_found : (f : Filtered) → IsEnd p l f → IsFound p q limit f
    end_found (filtered.Feasible point) h = absurd h
    end_found (filtered.Infeasible ms duals gap points) (same, made, gap_is, points_are) =
        subst (λ (xs : List ℕ). AreFound p q limit xs duals gap points) (sym same)
        (subst (λ (x : Frac). AreFound p q limit members duals x points) (sym gap_is)
        (subst (λ (xs : List Pairs). AreFound p q limit members duals l.answer.number xs) (sym points_are) (are_found duals made)))
