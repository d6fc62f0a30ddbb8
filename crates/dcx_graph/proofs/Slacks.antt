-- The rows of constraints among the rows of a program: where they stand, what their multipliers are, and that they have slacks
-- where they are inequalities.
use Rattle.std.proofs.Common.{◌≡◌, ℕ, zero, suc, ◌+◌, ◌≤◌, ◌<◌, arith, Bool, true, false, ◌||◌, List, [], ◌∷◌, ◌++◌, length, map, Some, slice_get, refl, sym, ap, ap₂, ◌∙◌, subst, length-append}
use Rattle.std.specs.Prelude.{nat_eq, sum_by, take}
use Rattle.std.proofs.lemmas.Bool.Decides.{nat_tests}
use Rattle.std.proofs.lemmas.List.{length-map}
use Rattle.std.proofs.lemmas.List.Sums.{sum_by-cons}
use Rattle.std.proofs.lemmas.Option.{none-some, same_Some}
use Rattle.dcx_math.specs.Rational.{ℚ}
use Rattle.dcx_math.proofs.Lists.{mapped}
use Rattle.dcx_frac.specs.declared.fraction.Frac.{Frac}
use Rattle.dcx_atom.specs.Arrays.{list_below}
use Rattle.dcx_atom.proofs.BoundRows.{length-list_below}
use Rattle.dcx_convex.specs.Nodes.{Numbers, Setting}
use Rattle.dcx_convex.specs.Reductions.{Unknowns}
use Rattle.dcx_tree.specs.declared.constraint.Constraint.{Constraint}
use Rattle.dcx_tree.specs.declared.constraint.Kind.{Kind}
use Rattle.dcx_tree.specs.declared.constraint.Kind.TheVariants as relations
use Rattle.dcx_tree.specs.declared.problem.Problem.{Problem}
use Rattle.dcx_tree.specs.Meaning.{convex_constraint, relation_of}
use Rattle.dcx_linear.specs.Rows.{RowAt}
use Rattle.dcx_tab.specs.declared.program.Program.{Program}
use Rattle.dcx_tab.specs.declared.rows.ColumnKind.{ColumnKind}
use Rattle.dcx_tab.specs.declared.rows.ColumnKind.TheVariants.{Unknown, Slack, Artificial}
use Rattle.dcx_tab.specs.Program.{kind_at}
use Rattle.dcx_lp_answer.specs.Right.{is_inequality}
use Rattle.dcx_lp_answer.specs.Multipliers.{is_at_most}
use Rattle.dcx_std.specs.GivenRows.{GivenRows}
use Rattle.dcx_std.specs.IntegerRows.{IsMade}
use Rattle.dcx_std.specs.Solutions.{HasKinds, row_at, linear_program}
use Rattle.dcx_std.proofs.ScaledProgram.{scaled_program}
use Rattle.dcx_std.proofs.Solutions.{facts_of, no_slack, inequality_there}
use Rattle.dcx_unknowns.specs.Layout.{constraint_rows}
use Rattle.dcx_postsolve.specs.Programs.{kind_of, gap_row, gap_rows, bound_row, multipliers_from}
use Rattle.dcx_postsolve.proofs.Rows.{AllFrom, all_left, all_right, all_below}
use Rattle.dcx_postsolve.specs.Duals.{row_kind, first_row}
use Rattle.dcx_postsolve.specs.Laws.{HaveSlacks}
use Rattle.dcx_graph.specs.Program.{Program as ReducedProgram}
use Rattle.dcx_graph.specs.Answers.{IsReducedAt}

-- ---- the rows of constraints
module _ (forms : Unknowns → ℕ → Numbers) where
  pub gaps_length : (cs : List Constraint) → length (gap_rows forms (map convex_constraint cs)) ≡ sum_by constraint_rows cs
  gaps_length [] = refl
  gaps_length (c ∷ cs) =
      length-append (list_below (constraint_rows c) (gap_row forms (convex_constraint c))) (gap_rows forms (map convex_constraint cs))
      ∙ ap₂ ◌+◌ (length-list_below (constraint_rows c) (gap_row forms (convex_constraint c))) (gaps_length cs)
      ∙ sym (sum_by-cons constraint_rows c cs)

  -- what holds of each row from row i on holds of the row of each entry, by its number
  gaps_have : (P : ℕ → RowAt → Type 0) (i : ℕ) (cs : List Constraint) → AllFrom P i (gap_rows forms (map convex_constraint cs)) →
      (k : ℕ) (c : Constraint) → slice_get cs k ≡ Some c → (j : ℕ) → j < constraint_rows c → P (i + (first_row cs k + j)) (gap_row forms (convex_constraint c) j)
  gaps_have P i [] h k c e j b = absurd (none-some c e)
  gaps_have P i (d ∷ cs) h zero c e j b =
      subst (λ (y : Constraint). j < constraint_rows y → P (i + (first_row (d ∷ cs) 0 + j)) (gap_row forms (convex_constraint y) j)) (same_Some d c e)
      (λ l. subst (λ n. P (i + n) (gap_row forms (convex_constraint d) j)) (omega arith)
      (all_below P i (constraint_rows d) (gap_row forms (convex_constraint d))
      (all_left P i (list_below (constraint_rows d) (gap_row forms (convex_constraint d))) (gap_rows forms (map convex_constraint cs)) h) j l)) b
  gaps_have P i (d ∷ cs) h (suc k) c e j b =
      subst (λ n. P n (gap_row forms (convex_constraint c) j)) (omega (arith, sum_by-cons constraint_rows d (take k cs)))
      (gaps_have P (i + constraint_rows d) cs
      (subst (λ n. AllFrom P (i + n) (gap_rows forms (map convex_constraint cs))) (length-list_below (constraint_rows d) (gap_row forms (convex_constraint d)))
      (all_right P i (list_below (constraint_rows d) (gap_row forms (convex_constraint d))) (gap_rows forms (map convex_constraint cs)) h)) k c e j b)

-- a reduced program has the rows of all constraints
pub rows_of_reduced : (p : Problem) (s : Setting) (q : ReducedProgram Frac) → IsReducedAt p s q → sum_by constraint_rows p.constraints ≤ length q.rows
rows_of_reduced p s q is =
    let gaps = gap_rows is.reduction.reduced.forms (map convex_constraint p.constraints) in
    let bounds = map bound_row is.reduction.reduced.rows in
    let all : length q.rows ≡ sum_by constraint_rows p.constraints + length bounds =
    sym (length-map q.rows row_at) ∙ ap length is.reduction.program.rows ∙ length-append gaps bounds ∙ ap (λ n. n + length bounds) (gaps_length is.reduction.reduced.forms p.constraints) in
    omega (arith, all)

-- ---- multipliers
-- the multiplier of an entry is that of its row
pub multiplier_is : (i : ℕ) (cs : List Constraint) (m : ℕ → ℚ) (k : ℕ) (c : Constraint) → slice_get cs k ≡ Some c → (j : ℕ)
    → multipliers_from i (map convex_constraint cs) m k j ≡ m (i + (first_row cs k + j))
multiplier_is i [] m k c e j = absurd (none-some c e)
multiplier_is i (d ∷ cs) m zero c e j = ap m (omega arith)
multiplier_is i (d ∷ cs) m (suc k) c e j = multiplier_is (i + constraint_rows d) cs m k c e j ∙ ap m (omega (arith, sum_by-cons constraint_rows d (take k cs)))

-- ---- slacks
-- a row that is an inequality by its columns has a slack among them
slack_among : (ks : List ColumnKind) (i : ℕ) → is_inequality ks i ≡ true → (j : ℕ) × (kind_at ks j ≡ Slack i)
slack_among [] i h = cc
slack_among (Unknown u n ∷ ks) i h = let (j, at) = slack_among ks i h in (suc j, at)
slack_among (Artificial r ∷ ks) i h = let (j, at) = slack_among ks i h in (suc j, at)
slack_among (Slack r ∷ ks) i h = by (nat_eq r i) refl h (slack_among ks i)
  where
    by : (b : Bool) → nat_eq r i ≡ b → (b || is_inequality ks i) ≡ true → (is_inequality ks i ≡ true → (j : ℕ) × (kind_at ks j ≡ Slack i)) → (j : ℕ) × (kind_at (Slack r ∷ ks) j ≡ Slack i)
    by true e h rest = let same : r ≡ i = grind (arith, nat_tests) in (0, ap Slack same)
    by false e h rest = let (j, at) = rest h in (suc j, at)

-- where the first rows are those of these constraints
module _ (rows : GivenRows) (q : Program) (known : HasKinds rows) (made : IsMade rows q) (forms : Unknowns → ℕ → Numbers) (cs : List Constraint) (rest : List RowAt)
    (are : (linear_program rows).rows ≡ gap_rows forms (map convex_constraint cs) ++ rest) where
  -- there are as many
  pub rows_enough : sum_by constraint_rows cs ≤ length q.rows
  rows_enough =
      let count = (scaled_program rows q made).count in
      let all : length rows.rows ≡ sum_by constraint_rows cs + length rest =
      sym (length-map rows.rows row_at) ∙ ap length are ∙ length-append (gap_rows forms (map convex_constraint cs)) rest ∙ ap (λ n. n + length rest) (gaps_length forms cs) in
      omega (arith, count, all)

  -- the row of an entry
  row_there : (k : ℕ) (c : Constraint) → slice_get cs k ≡ Some c → (j : ℕ) → j < constraint_rows c
      → slice_get (linear_program rows).rows (first_row cs k + j) ≡ Some (gap_row forms (convex_constraint c) j)
  row_there k c at j b =
      subst (λ n. slice_get (linear_program rows).rows n ≡ Some (gap_row forms (convex_constraint c) j)) (omega arith)
      (gaps_have forms (λ n r. slice_get (linear_program rows).rows n ≡ Some r) 0 cs
      (all_left (λ n r. slice_get (linear_program rows).rows n ≡ Some r) 0 (gap_rows forms (map convex_constraint cs)) rest
      (λ n r e. ap (λ xs. slice_get xs (0 + n)) are ∙ ap (λ m. slice_get (gap_rows forms (map convex_constraint cs) ++ rest) m) (omega arith) ∙ e)) k c at j b)

  -- the inequalities have slacks, and no others
  pub have_slacks : HaveSlacks q.columns cs
  have_slacks k c at j b =
      let (row, is, same) = mapped row_at rows.rows (first_row cs k + j) (gap_row forms (convex_constraint c) j) (row_there k c at j b) in
      let scaled = scaled_program rows q made in
      let facts = facts_of rows q known scaled (first_row cs k + j) row is in
      by row.kind (first_row cs k + j) (λ e. inequality_there rows q known scaled (first_row cs k + j) facts e)
      (λ e h. let (n, slack) = slack_among q.columns (first_row cs k + j) h in no_slack rows q known scaled (first_row cs k + j) facts e n slack) c.kind (ap (λ r. r.kind) same)
    where
      by : (kind : _) (i : ℕ) → (kind ≡ kind_of (relation_of relations.AtMost) → is_inequality q.columns i ≡ true)
          → (kind ≡ kind_of (relation_of relations.Equal) → is_inequality q.columns i ≡ true → ⊥)
          → (relation : Kind) → kind ≡ kind_of (relation_of relation) → is_inequality q.columns i ≡ is_at_most (row_kind relation)
      by kind i inequality equality relations.AtMost e = inequality e
      by kind i inequality equality relations.Equal e = none (is_inequality q.columns i) refl
        where
          none : (t : Bool) → is_inequality q.columns i ≡ t → t ≡ false
          none false d = refl
          none true d = absurd (equality e d)
