-- What a step shows: its point keeps the set, or the set is impossible, and then its multipliers show it.
use Rattle.std.proofs.Common.{◌≡◌, ◌≢◌, ℕ, suc, ◌<◌, ◌≤◌, ◌^◌, arith, List, [], ◌∷◌, length, map, Some, slice_get, refl, sym, ap, ap₂, ◌∙◌, subst, pos}
use Rattle.std.specs.Prelude.{sum_by, drop}
use Rattle.std.specs.List.{AllZip}
use Rattle.std.proofs.Math.Path.{fun_ext}
use Rattle.std.proofs.lemmas.List.{length-map}
use Rattle.dcx_math.specs.Rational.{ℚ, whole, ◌+ℚ◌, ◌-ℚ◌}
use Rattle.dcx_math.proofs.Orders.{≤ℚ_refl, zero-*ℚ, +ℚ_idr}
use Rattle.dcx_frac.specs.declared.fraction.Frac.{Frac}
use Rattle.dcx_frac.specs.Frac.{value}
use Rattle.dcx_atom.specs.declared.array.Array.{Array}
use Rattle.dcx_point.specs.Pairs.{Pairs}
use Rattle.dcx_convex.specs.Nodes.{Setting}
use Rattle.dcx_convex.specs.Problems.{Holds}
use Rattle.dcx_convex.specs.Answers as answers
use Rattle.dcx_tree.specs.declared.constraint.Constraint.{Constraint}
use Rattle.dcx_tree.specs.declared.problem.Problem.{Problem}
use Rattle.dcx_tree.specs.Meaning.{point_of, IsInDomain, IsDomainPoint, IsInfeasible}
use Rattle.dcx_linear.specs.FormTerms.{Unknowns}
use Rattle.dcx_linear.specs.Rows.{IsSolution}
use Rattle.dcx_lp_answer.specs.declared.answer.LpStatus.{LpStatus}
use Rattle.dcx_lp_answer.specs.declared.answer.LpStatus.TheVariants as status
use Rattle.dcx_lp_answer.specs.declared.answer.RowNote.{RowNote}
use Rattle.dcx_lp_answer.specs.Right.{multiplier_at, IsRight}
use Rattle.dcx_std.specs.Answers.{IsRightForRowsAs}
use Rattle.dcx_std.specs.Solutions.{linear_program, unknowns_at}
use Rattle.dcx_std.proofs.ScaledProgram.{scaled_program}
use Rattle.dcx_std.proofs.RightAnswers.{one_sided, rows_right_as}
use Rattle.dcx_unknowns.specs.Layout.{constraint_rows}
use Rattle.dcx_unknowns.specs.Unknowns.{point_at}
use Rattle.dcx_postsolve.specs.Programs.{bound_row, multipliers_of}
use Rattle.dcx_postsolve.specs.Points.{numbered, IsPointOf}
use Rattle.dcx_postsolve.specs.Duals.{AreDuals}
use Rattle.dcx_right.specs.Answers.{multipliers_in}
use Rattle.dcx_right.specs.ConstraintSets.{ConstraintSet, KeepsSet, IsImpossible}
use Rattle.dcx_right.specs.Filters.{HasShapeOf}
use Rattle.dcx_postsolve.specs.Laws.{ColumnsTellUnknowns}
use Rattle.dcx_postsolve.proofs.ColumnParts.{columns_tell}
use Rattle.dcx_postsolve.proofs.DualLaws.{right_multiplier}
use Rattle.dcx_postsolve.proofs.Alike.{arrays_are_points}
use Rattle.dcx_postsolve.proofs.Carrying.{alike_value, domain_alike}
use Rattle.dcx_lp_solve.specs.declared.solving.Solved.{Solved}
use Rattle.dcx_lp_solve.proofs.Counts.{counts_of}
use Rattle.dcx_lp_solve.proofs.Right.{answers_are_right}
use Rattle.dcx_graph.specs.Program.{Program}
use Rattle.dcx_graph.specs.Answers.{HasParts, TellUnknowns, IsPointRead, IsReducedAt}
use Rattle.dcx_graph.proofs.Mapped.{numbered_same}
use Rattle.dcx_graph.proofs.Slacks.{rows_enough, have_slacks, multiplier_is}
use Rattle.dcx_iis.specs.Steps.{kept_of, program_of_set, IsStep}
use Rattle.dcx_iis.specs.Multipliers.{AreSpread}
use Rattle.dcx_iis.proofs.Telling.{only, set_rows, solution_keeps, infeasible_only, only_impossible}
use Rattle.dcx_iis.proofs.Spread.{spread_infeasible}

-- ---- points
-- the point of unknowns whose arrays these are keeps what theirs does
module _ (p : Problem) (us : List Frac) (given : Pairs) (is : IsPointOf p.variables us given) where
  domain_read : (s : Setting) → IsInDomain p (point_at p.variables (numbered us)) → IsDomainPoint p given
  domain_read s dom = record {
    shaped = is.shaped;
    domain = domain_alike p s (point_at p.variables (numbered us)) (point_of p given) (arrays_are_points p us given is) dom;
  }

  keeps_read : (s : Setting) (set : ConstraintSet) → KeepsSet p s set (point_at p.variables (numbered us)) → KeepsSet p s set (point_of p given)
  keeps_read s set h =
      let alike = arrays_are_points p us given is in
      record {
        domain = (domain_read s h.domain).domain;
        keeps = λ k t c at j l. subst (Holds c.relation)
            (ap₂ (λ x y. x -ℚ y) (alike_value p s (point_at p.variables (numbered us)) (point_of p given) alike c.left j)
            (alike_value p s (point_at p.variables (numbered us)) (point_of p given) alike c.right j))
            (h.keeps k t c at j l);
      }

-- lists with a relation of each to its own are as long
pub zip_length : {A B : Type 0} (R : A → B → Type 0) (xs : List A) (ys : List B) → AllZip R xs ys → length xs ≡ length ys
zip_length R [] [] h = refl
zip_length R [] (y ∷ ys) h = absurd h
zip_length R (x ∷ xs) [] h = absurd h
zip_length R (x ∷ xs) (y ∷ ys) h = ap suc (zip_length R xs ys h.1)

-- multipliers that are formed have the shapes of their constraints
pub duals_shaped : (t : LpStatus) (cs : List Constraint) (notes : List RowNote) (ds : List Array) → AreDuals t cs notes ds → AllZip HasShapeOf cs ds
duals_shaped t [] notes [] h = tt
duals_shaped t [] notes (d ∷ ds) h = absurd h
duals_shaped t (c ∷ cs) notes [] h = absurd h
duals_shaped t (c ∷ cs) notes (d ∷ ds) h = (h.0.shape, duals_shaped t cs (drop (constraint_rows c) notes) ds h.1)

module _ (p : Problem) (q : Program Frac) (limit : ℕ) (set : ConstraintSet) (solved : Solved) (step : IsStep p q limit set solved) where
  parts : HasParts solved.program solved.answer
  parts =
      let counts = counts_of solved.program _ step.is_solved.solved.end solved.answer step.is_solved.solved.read in
      record { columns = counts.columns; ray = counts.ray; notes = counts.rows }

  tells : ColumnsTellUnknowns (program_of_set p q set) solved.program (map value solved.answer.columns)
  tells = columns_tell (program_of_set p q set) solved.program (map value solved.answer.columns) step.is_solved.made (length-map solved.answer.columns value ∙ parts.columns)

  right : IsRight solved.program solved.answer
  right = answers_are_right limit (program_of_set p q set) solved step.is_solved

  -- the columns of the answer tell unknowns
  pub columns_told : TellUnknowns q.kinds solved.answer.columns
  columns_told = record { there = tells.there; one_sided = tells.one_sided (one_sided solved.answer.status solved.program solved.answer right) }

  right_rows : (t : LpStatus) → solved.answer.status ≡ t → IsRightForRowsAs t (program_of_set p q set) solved.program solved.answer
  right_rows t e = rows_right_as (program_of_set p q set) solved.program step.known step.is_solved.made solved.answer right t e

  abbrev unknowns : Unknowns
  unknowns = unknowns_at solved.program.columns (map value solved.answer.columns)

  -- ---- a point
  solution_as : (t : LpStatus) → solved.answer.status ≡ t → t ≢ status.Infeasible → IsSolution (linear_program (program_of_set p q set)) unknowns
  solution_as status.Optimal e n = (right_rows status.Optimal e).solution
  solution_as status.Infeasible e n = absurd (n refl)
  solution_as status.Unbounded e n =
      let ray = unknowns_at solved.program.columns (map value solved.answer.ray) in
      subst (IsSolution (linear_program (program_of_set p q set))) (fun_ext (λ i. ap (λ z. unknowns i +ℚ z) (zero-*ℚ (ray i)) ∙ +ℚ_idr (unknowns i)))
      ((right_rows status.Unbounded e).solution (whole (pos 0)) (≤ℚ_refl (whole (pos 0))))

  module _ (s : Setting) (is : IsReducedAt p s q) where
    -- some point keeps the set
    pub some_keeps : solved.answer.status ≢ status.Infeasible → KeepsSet p s set (point_at p.variables unknowns)
    some_keeps n = solution_keeps p s q is set unknowns (solution_as solved.answer.status refl n)

    pub not_impossible : solved.answer.status ≢ status.Infeasible → ¬ IsImpossible p s set
    not_impossible n impossible = impossible (point_at p.variables unknowns) (some_keeps n)

    -- the point that is read keeps it
    pub point_domain : solved.answer.status ≢ status.Infeasible → (point : Pairs) → IsPointRead p q.kinds solved.answer.columns point → IsDomainPoint p point
    point_domain n point at =
        domain_read p at.unknowns point at.of_variables s (subst (λ u. IsInDomain p (point_at p.variables u))
        (sym (numbered_same p (program_of_set p q set) solved.program solved.answer.columns point tells at)) (some_keeps n).domain)

    pub point_keeps : solved.answer.status ≢ status.Infeasible → (point : Pairs) → IsPointRead p q.kinds solved.answer.columns point → KeepsSet p s set (point_of p point)
    point_keeps n point at =
        keeps_read p at.unknowns point at.of_variables s set (subst (λ u. KeepsSet p s set (point_at p.variables u))
        (sym (numbered_same p (program_of_set p q set) solved.program solved.answer.columns point tells at)) (some_keeps n))

    -- ---- no point
    abbrev m : ℕ → ℚ
    m = multiplier_at solved.program.columns solved.answer

    only_shown : solved.answer.status ≡ status.Infeasible → answers.IsInfeasible (only p set) s (multipliers_of (only p set) m) (value solved.answer.number)
    only_shown e = infeasible_only p s q is set (value solved.answer.number) m (right_rows status.Infeasible e)

    pub shown_impossible : solved.answer.status ≡ status.Infeasible → IsImpossible p s set
    shown_impossible e = only_impossible p s q is set (multipliers_of (only p set) m) (value solved.answer.number) (only_shown e)

    -- the notes of the rows of its constraints are there
    pub rows_noted : sum_by constraint_rows (kept_of set p.constraints) ≤ length solved.answer.rows
    rows_noted =
        let enough = rows_enough (program_of_set p q set) solved.program step.known step.is_solved.made is.reduction.reduced.forms (kept_of set p.constraints)
        (map bound_row is.reduction.reduced.rows) (set_rows p s q is set) in
        let count = parts.notes in
        omega (arith, enough, count)

    dual_is : (ds : List Array) → AreDuals solved.answer.status (kept_of set p.constraints) solved.answer.rows ds →
        (k : ℕ) (c : Constraint) → slice_get (kept_of set p.constraints) k ≡ Some c → (j : ℕ) → j < constraint_rows c → multipliers_of (only p set) m k j ≡ multipliers_in ds k j
    dual_is ds are k c at j b =
        multiplier_is 0 (kept_of set p.constraints) m k c at j
        ∙ ap m (omega arith)
        ∙ sym (right_multiplier solved.program.columns solved.answer (kept_of set p.constraints) ds
        (have_slacks (program_of_set p q set) solved.program step.known step.is_solved.made is.reduction.reduced.forms (kept_of set p.constraints) (map bound_row is.reduction.reduced.rows)
        (set_rows p s q is set))
        are k c at j b)

    -- the multipliers of its constraints, with zeros for all others, show that no point is feasible
    pub duals_show : solved.answer.status ≡ status.Infeasible → (ds ys : List Array) → AreDuals solved.answer.status (kept_of set p.constraints) solved.answer.rows ds
        → AreSpread set p.constraints ds ys
        → IsInfeasible p s (multipliers_in ys) (value solved.answer.number)
    duals_show e ds ys are spread =
        spread_infeasible p s set ys (multipliers_of (only p set) m) (value solved.answer.number) (sym (zip_length HasShapeOf p.constraints ys spread.shaped))
        (λ k c at j b. dual_is ds are k c at j b ∙ ap (λ (xs : List Array). multipliers_in xs k j) (sym spread.kept))
        spread.zeros (only_shown e)

  -- there are few
  pub rows_few : length solved.answer.rows < 2 ^ 32
  rows_few =
      let fits = step.is_solved.made.fits.0 in
      let count = (scaled_program (program_of_set p q set) solved.program step.is_solved.made).count in
      let notes = parts.notes in
      omega (arith, fits, count, notes)
