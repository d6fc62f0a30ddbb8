-- A right answer to the scaled program of rows shows one to the rows.
use Rattle.std.proofs.Common.{◌≡◌, ℕ, suc, ◌+◌, ◌<◌, List, [], ◌∷◌, length, map, Some, refl, sym, ap, ap₂, ◌∙◌, subst, arith, pos}
use Rattle.std.specs.Prelude.{slice_get}
use Rattle.std.proofs.lemmas.List.{length-map}
use Rattle.std.proofs.lemmas.Option.{slice_get_within}
use Rattle.dcx_math.specs.Rational.{ℚ, whole, ◌+ℚ◌, ◌-ℚ◌, ◌*ℚ◌, ◌≤ℚ◌}
use Rattle.dcx_math.specs.Sums.{rat_sum_below, along}
use Rattle.dcx_math.proofs.Lists.{element_at}
use Rattle.dcx_math.proofs.Orders.{≤ℚ_refl}
use Rattle.dcx_math.proofs.Sums.{rat_sum_below-first, rat_sum_below-same}
use Rattle.dcx_math.proofs.Lists.{mapped}
use Rattle.dcx_frac.specs.Frac.{value}
use Rattle.dcx_linear.specs.declared.row.RowKind.TheVariants.{AtMost}
use Rattle.dcx_linear.specs.FormTerms.{Unknowns}
use Rattle.dcx_linear.specs.Rows as linear_rows
use Rattle.dcx_linear.specs.Rows.{RowAt, AreOfKinds, HaveSigns, combined_from, combined}
use Rattle.dcx_tab.specs.declared.program.Program.{Program}
use Rattle.dcx_tab.specs.Program.{kind_at}
use Rattle.dcx_lp_answer.specs.declared.answer.LpStatus.{LpStatus}
use Rattle.dcx_lp_answer.specs.declared.answer.LpStatus.TheVariants as status
use Rattle.dcx_lp_answer.specs.declared.answer.LpAnswer.{LpAnswer}
use Rattle.dcx_lp_answer.specs.Notes.{numbers}
use Rattle.dcx_lp_answer.specs.Right.{cost_at_columns, form_at, multiplier_at, combined_rows, IsOneSided, HasSigns, IsAssignment}
use Rattle.dcx_lp_answer.specs.Right.{IsOptimalAnswer, IsInfeasibleAnswer, IsUnboundedAnswer, IsRightAs, IsRight}
use Rattle.dcx_std.specs.GivenRows.{GivenRows}
use Rattle.dcx_std.specs.IntegerRows.{IsMade}
use Rattle.dcx_std.specs.ScaledProgram.{IsScaledProgram}
use Rattle.dcx_std.specs.Solutions.{form_number, row_at, linear_program, unknowns_at, HasKinds}
use Rattle.dcx_std.specs.Answers.{IsRightForRowsAs, IsRightForRows}
use Rattle.dcx_std.proofs.Assignments.{column_value, assignment, assigned_at, value_nonnegative, assigned_unknown, unknowns-along}
use Rattle.dcx_std.proofs.ScaledProgram.{scaled_program}
use Rattle.dcx_std.proofs.Solutions.{facts_of, narrow, form_same, artificial_none, slack_none, inequality_there, solution_of, cost_is, form_of}

-- the columns of an answer that is right are one-sided
pub one_sided : (t : LpStatus) (q : Program) (a : LpAnswer) → IsRightAs t q a → IsOneSided q.columns (numbers a.columns)
one_sided status.Optimal q a r = r.one_sided
one_sided status.Infeasible q a r = r.one_sided
one_sided status.Unbounded q a r = r.one_sided

-- unknowns that agree everywhere are the same
same_unknowns : (x y : Unknowns) → ((u : ℕ) → x u ≡ y u) → x ≡ y
same_unknowns x y e = λ i u. e u i

-- the rows with their multipliers as a sum over their numbers
pub combined_sum : (m : ℕ → ℚ) (i : ℕ) (rs : List RowAt) (x : Unknowns) (f : ℕ → ℚ) → ((k : ℕ) (r : RowAt) → slice_get rs k ≡ Some r → r.number x ≡ f k)
    → combined_from m i rs x ≡ rat_sum_below (length rs) (λ k. m (i + k) *ℚ f k)
combined_sum m i [] x f h = refl
combined_sum m i (r ∷ rs) x f h =
    let z : i ≡ i + 0 = omega arith in
    ap₂ (λ a b. a +ℚ b) (ap₂ ◌*ℚ◌ (ap m z) (h 0 r refl))
    (combined_sum m (suc i) rs x (λ k. f (suc k)) (λ k s e. h (suc k) s e)
    ∙ rat_sum_below-same (length rs) _ (λ k. m (i + suc k) *ℚ f (suc k)) (λ k l. let e : suc i + k ≡ i + suc k = omega arith in ap (λ j. m j *ℚ f (suc k)) e))
    ∙ sym (rat_sum_below-first (length rs) (λ k. m (i + k) *ℚ f k))

module _ (rows : GivenRows) (q : Program) (known : HasKinds rows) (s : IsScaledProgram rows q) (a : LpAnswer) where
  -- ---- unknowns as columns, all slacks 0
  abbrev none : ℕ → ℚ
  none i = whole (pos 0)

  assignment_is : (y : Unknowns) → IsAssignment q (assignment q.columns none y)
  assignment_is y = record {
    count = length-map q.columns (column_value none y);
    nonnegative = λ j l. subst (λ z. whole (pos 0) ≤ℚ z) (sym (assigned_at q.columns none y j l)) (value_nonnegative none y (kind_at q.columns j) (λ r e. ≤ℚ_refl (whole (pos 0))));
    slack = λ j i l e. assigned_at q.columns none y j l ∙ ap (column_value none y) e;
    artificial = λ j i l e. assigned_at q.columns none y j l ∙ ap (column_value none y) e;
  }

  unknowns_are : (y : Unknowns) → AreOfKinds rows.kinds y → (u : ℕ) → u < length rows.kinds → unknowns_at q.columns (assignment q.columns none y) u ≡ y u
  unknowns_are y h u l =
      let k = element_at rows.kinds u l in
      ap (λ ks. unknowns_at ks (assignment ks none y) u) s.columns ∙ assigned_unknown none y u rows.kinds s.starts k.0 k.1 (h u k.0 k.1)

  cost_of : (y : Unknowns) → AreOfKinds rows.kinds y → cost_at_columns q.objective (assignment q.columns none y) ≡ form_number rows.objective y
  cost_of y h = cost_is rows q known s (assignment q.columns none y) ∙ form_same rows q known s rows.objective _ y s.cost.sparse known.objective_known (unknowns_are y h)

  number_of : (y : Unknowns) → AreOfKinds rows.kinds y → (i : ℕ) (r : RowAt) → slice_get (map row_at rows.rows) i ≡ Some r → r.number y ≡ form_at q i (assignment q.columns none y)
  number_of y h i r e =
      let o = mapped row_at rows.rows i r e in
      let f = facts_of rows q known s i o.0 o.1 in
      let is : row_at f.row ≡ r = row_same i o.0 o.1 r o.2 in
      let artificials = artificial_none rows q known s (assignment q.columns none y) i (λ j k l d. assigned_at q.columns none y j l ∙ ap (column_value none y) d) in
      let slack = slack_none rows q known s (assignment q.columns none y) i (λ j l d. assigned_at q.columns none y j l ∙ ap (column_value none y) d) in
      sym (ap (λ (t : RowAt). t.number y) is)
      ∙ sym (form_of rows q known s i f (assignment q.columns none y) artificials slack ∙ form_same rows q known s f.row.form _ y f.scaled.sparse (narrow rows q known s i f) (unknowns_are y h))
    where
      row_same : (i : ℕ) (row : _) (e : slice_get rows.rows i ≡ Some row) (r : RowAt) → row_at row ≡ r → row_at (facts_of rows q known s i row e).row ≡ r
      row_same i row e r d = d

  combined_is : (y : Unknowns) → AreOfKinds rows.kinds y → combined_rows q a (assignment q.columns none y) ≡ combined (linear_program rows) (multiplier_at q.columns a) y
  combined_is y h =
      let count : length q.rows ≡ length (map row_at rows.rows) = s.count ∙ sym (length-map rows.rows row_at) in
      ap (λ n. rat_sum_below n (λ i. multiplier_at q.columns a i *ℚ form_at q i (assignment q.columns none y))) count
      ∙ rat_sum_below-same (length (map row_at rows.rows)) _ (λ k. multiplier_at q.columns a (0 + k) *ℚ form_at q k (assignment q.columns none y))
      (λ k l. let e : k ≡ 0 + k = omega arith in ap (λ i. multiplier_at q.columns a i *ℚ form_at q k (assignment q.columns none y)) e)
      ∙ sym (combined_sum (multiplier_at q.columns a) 0 (map row_at rows.rows) y (λ k. form_at q k (assignment q.columns none y)) (number_of y h))

  signs_are : HasSigns q a → HaveSigns (linear_program rows) (multiplier_at q.columns a)
  signs_are h i r e k =
      let o = mapped row_at rows.rows i r e in
      let f = facts_of rows q known s i o.0 o.1 in
      let l = slice_get_within q.rows i f.ints f.ints_is in
      h i l (inequality_there rows q known s i f (kind_same i o.0 o.1 (ap (λ (t : RowAt). t.kind) o.2 ∙ k)))
    where
      kind_same : (i : ℕ) (row : _) (e : slice_get rows.rows i ≡ Some row) → row.kind ≡ AtMost → (facts_of rows q known s i row e).row.kind ≡ AtMost
      kind_same i row e d = d

  -- ---- the three kinds of answers
  optimal_of : IsOptimalAnswer q a → linear_rows.IsOptimal (linear_program rows) (value a.number) (unknowns_at q.columns (numbers a.columns)) (multiplier_at q.columns a)
  optimal_of o = record {
    solution = solution_of rows q known s (numbers a.columns) o.solution;
    attained = sym (cost_is rows q known s (numbers a.columns)) ∙ o.attained;
    signs = signs_are o.signs;
    bound = λ y h. subst (λ z. value a.number ≤ℚ z) (ap₂ ◌+ℚ◌ (cost_of y h) (combined_is y h)) (o.bound (assignment q.columns none y) (assignment_is y));
  }

  infeasible_of : IsInfeasibleAnswer q a → linear_rows.IsInfeasible (linear_program rows) (value a.number) (multiplier_at q.columns a)
  infeasible_of o = record {
    positive = o.gap;
    signs = signs_are o.signs;
    bound = λ y h. subst (λ z. value a.number ≤ℚ z) (combined_is y h) (o.bound (assignment q.columns none y) (assignment_is y));
  }

  unbounded_of : IsUnboundedAnswer q a → linear_rows.IsUnbounded (linear_program rows) (unknowns_at q.columns (numbers a.columns)) (unknowns_at q.columns (numbers a.ray)) (value a.number)
      (value a.slope)
  unbounded_of o =
      let along_is : (k : ℚ) → unknowns_at q.columns (along (numbers a.columns) k (numbers a.ray))
      ≡ (λ u. unknowns_at q.columns (numbers a.columns) u +ℚ k *ℚ unknowns_at q.columns (numbers a.ray) u) =
      λ k. same_unknowns _ _ (unknowns-along q.columns (numbers a.columns) k (numbers a.ray)) in
      record {
        falls = o.slope;
        solution = λ k l. subst (linear_rows.IsSolution (linear_program rows)) (along_is k) (solution_of rows q known s (along (numbers a.columns) k (numbers a.ray)) (o.solution k l));
        objective = λ k l. subst (λ x. form_number rows.objective x ≤ℚ (value a.number -ℚ k *ℚ value a.slope)) (along_is k)
            (subst (λ z. z ≤ℚ (value a.number -ℚ k *ℚ value a.slope)) (cost_is rows q known s (along (numbers a.columns) k (numbers a.ray))) (o.cost k l));
      }

  shown_as : (t : LpStatus) → IsRightAs t q a → IsRightForRowsAs t rows q a
  shown_as status.Optimal r = optimal_of r
  shown_as status.Infeasible r = infeasible_of r
  shown_as status.Unbounded r = unbounded_of r

  -- a right answer shows one to the rows
  pub shown_of : IsRight q a → IsRightForRows rows q a
  shown_of r = shown_as a.status r

-- as its status says
pub rows_right_as : (rows : GivenRows) (q : Program) (known : HasKinds rows) → IsMade rows q → (a : LpAnswer) → IsRight q a → (t : LpStatus) → a.status ≡ t → IsRightForRowsAs t rows q a
rows_right_as rows q known made a right t e = subst (λ (u : LpStatus). IsRightForRowsAs u rows q a) e (shown_of rows q known (scaled_program rows q made) a right)
