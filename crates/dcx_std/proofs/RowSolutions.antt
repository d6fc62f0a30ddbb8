-- Unknowns that solve the rows come from columns that solve their scaled program.
use Rattle.std.proofs.Common.{◌≡◌, ◌≢◌, ℕ, ◌<◌, Bool, true, false, List, [], ◌∷◌, length, map, refl, sym, ap, ap₂, ◌∙◌, subst, arith, pos}
use Rattle.std.specs.Prelude.{nat_eq, if◌then◌else◌}
use Rattle.std.specs.Option.{option_map}
use Rattle.std.proofs.Common.{eq-eqb}
use Rattle.std.proofs.lemmas.Bool.Decides.{nat_tests}
use Rattle.std.proofs.lemmas.List.{length-map}
use Rattle.std.proofs.lemmas.Option.{slice_get-map}
use Rattle.dcx_math.specs.Rational.{ℚ, whole, ◌+ℚ◌, ◌*ℚ◌, neg_ℚ, ◌≤ℚ◌, ◌<ℚ◌}
use Rattle.dcx_math.specs.Sums.{rat_at}
use Rattle.dcx_math.proofs.Lists.{element_at}
use Rattle.dcx_math.proofs.Orders.{neg_ℚ-≤ℚ, neg_ℚ-zero, <ℚ-≤ℚ}
use Rattle.dcx_math.proofs.Products.{*ℚ-nonpositive}
use Rattle.dcx_math.proofs.Ring.{ring, reads}
use Rattle.dcx_math.proofs.Sums.{rat_sum_below-one, rat_at-get_or}
use Rattle.dcx_frac.specs.Frac.{value}
use Rattle.dcx_linear.specs.declared.row.RowKind.{RowKind}
use Rattle.dcx_linear.specs.declared.row.RowKind.TheVariants.{AtMost, Equal}
use Rattle.dcx_linear.specs.FormTerms.{Unknowns}
use Rattle.dcx_linear.specs.Rows as linear_rows
use Rattle.dcx_linear.specs.Rows.{RowAt, StandsTo}
use Rattle.dcx_tab.specs.declared.rows.ColumnKind.{ColumnKind}
use Rattle.dcx_tab.specs.declared.rows.ColumnKind.TheVariants.{Unknown, Slack, Artificial}
use Rattle.dcx_tab.specs.declared.program.Program.{Program}
use Rattle.dcx_tab.specs.Program.{kind_at, right_side_at, right_of}
use Rattle.dcx_lp_answer.specs.Notes.{row_factor}
use Rattle.dcx_lp_answer.specs.Right.{turned_if, row_at_columns, cost_at_columns, IsSolution}
use Rattle.dcx_std.specs.GivenRows.{GivenRows}
use Rattle.dcx_std.specs.ScaledProgram.{IsScaledProgram}
use Rattle.dcx_std.specs.Solutions.{form_number, row_at, linear_program, unknowns_at, HasKinds}
use Rattle.dcx_std.proofs.Assignments.{column_value, assignment, assigned_at, value_nonnegative, assigned_unknown}
use Rattle.dcx_std.proofs.RowSums.{slack_part, slack_at, artificial_at, sign, turned_is}
use Rattle.dcx_std.proofs.Solutions.{mapped_at, RowFacts, facts_of, narrow, form_is, form_same, linear_sum, row_value}
use Rattle.dcx_std.proofs.Solutions.{artificial_none, slack_none, no_slack, slack_there, plain_below_artificial, cost_is}

filled_left : (g f l c : ℚ) → g *ℚ (f *ℚ l +ℚ neg_ℚ (f *ℚ (c +ℚ l))) +ℚ whole (pos 0) ≡ g *ℚ (f *ℚ neg_ℚ c)
filled_left g f l c = ring (g ∷ f ∷ l ∷ c ∷ []) (search reads depth 30) tt

-- a row holds with the slack that its form leaves
filled : (t : Bool) (f l c s a r d : ℚ) → d ≡ sign t *ℚ (f *ℚ l +ℚ s) +ℚ a → a ≡ whole (pos 0) → s ≡ neg_ℚ (f *ℚ (c +ℚ l)) → r ≡ turned_if t (f *ℚ neg_ℚ c) → d ≡ r
filled t f l c s a r d sum none slack right =
    sum ∙ ap₂ (λ p q. sign t *ℚ (f *ℚ l +ℚ p) +ℚ q) slack none ∙ filled_left (sign t) f l c ∙ sym (right ∙ turned_is t (f *ℚ neg_ℚ c))

-- what is at most 0 leaves a slack of at least 0
slack_low : (f e : ℚ) → whole (pos 0) <ℚ f → e ≤ℚ whole (pos 0) → whole (pos 0) ≤ℚ neg_ℚ (f *ℚ e)
slack_low f e p h = subst (λ z. z ≤ℚ neg_ℚ (f *ℚ e)) neg_ℚ-zero (neg_ℚ-≤ℚ (*ℚ-nonpositive (<ℚ-≤ℚ p) h))

no_excess : (f e : ℚ) → e ≡ whole (pos 0) → whole (pos 0) ≡ neg_ℚ (f *ℚ e)
no_excess f e h = ring (f ∷ []) (search reads depth 30) tt ∙ ap (λ z. neg_ℚ (f *ℚ z)) (sym h)

module _ (rows : GivenRows) (q : Program) (known : HasKinds rows) (s : IsScaledProgram rows q) (x : Unknowns) (h : linear_rows.IsSolution (linear_program rows) x) where
  -- the slack of row i
  slacks : ℕ → ℚ
  slacks i = neg_ℚ (rat_at (map row_factor q.rows) i *ℚ rat_at (map (λ r. form_number r.form x) rows.rows) i)

  columns : List ℚ
  columns = assignment q.columns slacks x

  slack_is : (i : ℕ) (f : RowFacts rows q known s i) → slacks i ≡ neg_ℚ (value f.ints.factor *ℚ form_number f.row.form x)
  unfolding slacks
  slack_is i f =
      ap₂ (λ a b. neg_ℚ (a *ℚ b)) (sym (rat_at-get_or (map row_factor q.rows) i) ∙ mapped_at row_factor q.rows i f.ints (whole (pos 0)) f.ints_is)
      (sym (rat_at-get_or (map (λ r. form_number r.form x) rows.rows) i) ∙ mapped_at (λ r. form_number r.form x) rows.rows i f.row (whole (pos 0)) f.row_is)

  holds : (i : ℕ) (f : RowFacts rows q known s i) → StandsTo f.row.kind (form_number f.row.form x)
  holds i f = h.rows i (row_at f.row) (slice_get-map row_at rows.rows i ∙ ap (option_map row_at) f.row_is)

  at_row : (i : ℕ) → i < length rows.rows → RowFacts rows q known s i
  at_row i l = let r = element_at rows.rows i l in facts_of rows q known s i r.0 r.1

  number_is : (j : ℕ) → j < length q.columns → rat_at columns j ≡ column_value slacks x (kind_at q.columns j)
  unfolding columns
  number_is j l = assigned_at q.columns slacks x j l

  unknowns_are : (u : ℕ) → u < length rows.kinds → unknowns_at q.columns columns u ≡ x u
  unfolding columns
  unknowns_are u l =
      let k = element_at rows.kinds u l in
      ap (λ ks. unknowns_at ks (assignment ks slacks x) u) s.columns ∙ assigned_unknown slacks x u rows.kinds s.starts k.0 k.1 (h.kinds u k.0 k.1)

  slack_nonnegative : (i : ℕ) (f : RowFacts rows q known s i) → f.row.kind ≡ AtMost → whole (pos 0) ≤ℚ slacks i
  slack_nonnegative i f e =
      subst (λ z. whole (pos 0) ≤ℚ z) (sym (slack_is i f)) (slack_low (value f.ints.factor) (form_number f.row.form x) f.form.factor (subst (λ k. StandsTo k (form_number f.row.form x)) e (holds i f)))

  nonnegative : (j : ℕ) → j < length q.columns → whole (pos 0) ≤ℚ rat_at columns j
  nonnegative j l = subst (λ z. whole (pos 0) ≤ℚ z) (sym (number_is j l)) (value_nonnegative slacks x (kind_at q.columns j) (λ i e. of_slack i e))
    where
      of_slack : (i : ℕ) → kind_at q.columns j ≡ Slack i → whole (pos 0) ≤ℚ slacks i
      of_slack i e =
          let c = s.count in
          let b = q.form.slack j i e in
          let f = at_row i (omega (arith, b, c)) in by f f.row.kind refl
        where
          by : (f : RowFacts rows q known s i) (k : RowKind) → f.row.kind ≡ k → whole (pos 0) ≤ℚ slacks i
          by f AtMost d = slack_nonnegative i f d
          by f Equal d = absurd (no_slack rows q known s i f d j e)

  -- the slack at the columns
  slack_of_row : (i : ℕ) (f : RowFacts rows q known s i) → slack_at q.columns columns i ≡ neg_ℚ (value f.ints.factor *ℚ form_number f.row.form x)
  slack_of_row i f = by f.row.kind refl
    where
      other : (p j : ℕ) → kind_at q.columns p ≡ Slack i → j < length q.columns → j ≢ p → (k : ColumnKind) → kind_at q.columns j ≡ k → slack_part i k (rat_at columns j) ≡ whole (pos 0)
      other p j e l d (Unknown u minus) g = refl
      other p j e l d (Slack r) g = test (nat_eq r i) refl
        where
          test : (b : Bool) → nat_eq r i ≡ b → (if b then rat_at columns j else whole (pos 0)) ≡ whole (pos 0)
          test true t = let z : r ≡ i = grind (arith, nat_tests) in absurd (d (q.form.one_slack j p i (g ∙ ap Slack z) e))
          test false t = refl
      other p j e l d (Artificial r) g = refl

      by : (k : RowKind) → f.row.kind ≡ k → slack_at q.columns columns i ≡ neg_ℚ (value f.ints.factor *ℚ form_number f.row.form x)
      by AtMost e =
          let p = slack_there rows q known s i f e in
          rat_sum_below-one (length q.columns) p.0 (λ j. slack_part i (kind_at q.columns j) (rat_at columns j)) p.1 (λ j l d. other p.0 j p.2 l d (kind_at q.columns j) refl)
          ∙ ap (λ k. slack_part i k (rat_at columns p.0)) p.2 ∙ ap (λ b. if b then rat_at columns p.0 else whole (pos 0)) (eq-eqb i i refl)
          ∙ number_is p.0 p.1 ∙ ap (column_value slacks x) p.2 ∙ slack_is i f
      by Equal e = slack_none rows q known s columns i (λ j l g. absurd (no_slack rows q known s i f e j g))
          ∙ no_excess (value f.ints.factor) (form_number f.row.form x) (subst (λ k. StandsTo k (form_number f.row.form x)) e (holds i f))

  row_solved : (i : ℕ) → i < length q.rows → row_at_columns q i columns ≡ whole (right_side_at q.rows i)
  row_solved i l =
      let c = s.count in
      let f = at_row i (omega (arith, l, c)) in
      let y = unknowns_at q.columns columns in
      let k = value f.ints.factor in
      let same : form_number f.row.form x ≡ value f.row.form.constant +ℚ linear_sum rows q known s f.row.form y =
      sym (form_same rows q known s f.row.form y x f.scaled.sparse (narrow rows q known s i f) unknowns_are) ∙ form_is rows q known s f.row.form y f.scaled.sparse (narrow rows q known s i f) in
      let right : whole (right_side_at q.rows i) ≡ turned_if f.ints.negated (k *ℚ neg_ℚ (value f.row.form.constant)) = ap whole (mapped_at right_of q.rows i f.ints (pos 0) f.ints_is)
      ∙ f.scaled.right in
      filled f.ints.negated k (linear_sum rows q known s f.row.form y) (value f.row.form.constant) (slack_at q.columns columns i) (artificial_at q.columns columns i)
      (whole (right_side_at q.rows i)) (row_at_columns q i columns)
      (row_value rows q known s i f columns) (artificial_none rows q known s columns i (λ j r m e. number_is j m ∙ ap (column_value slacks x) e))
      (slack_of_row i f ∙ ap (λ z. neg_ℚ (k *ℚ z)) same) right

  columns_solve : IsSolution q columns
  unfolding columns
  columns_solve = record {
    count = length-map q.columns (column_value slacks x);
    nonnegative = nonnegative;
    artificial = λ j l m. let k = plain_below_artificial rows q known s j l m in number_is j m ∙ ap (column_value slacks x) k.1;
    rows = row_solved;
  }

  -- at the same cost
  cost_same : cost_at_columns q.objective columns ≡ form_number rows.objective x
  cost_same = cost_is rows q known s columns ∙ form_same rows q known s rows.objective (unknowns_at q.columns columns) x s.cost.sparse known.objective_known unknowns_are

  -- unknowns that solve the rows are those of columns that solve the program
  pub solution_from : (zs : List ℚ) × IsSolution q zs × ((u : ℕ) → u < length rows.kinds → unknowns_at q.columns zs u ≡ x u) × (cost_at_columns q.objective zs ≡ form_number rows.objective x)
  solution_from = (columns, columns_solve, unknowns_are, cost_same)
