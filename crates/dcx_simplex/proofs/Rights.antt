-- The answer that is read at an end is right for the program.
use Rattle.std.proofs.Common.{◌≡◌, ◌≢◌, ℕ, zero, suc, ◌+◌, ◌<◌, ◌≤◌, Bool, true, false, List, [], ◌∷◌, length, map, ℤ, pos}
use Rattle.std.proofs.Common.{negsuc, ◌+ℤ◌, ◌<ℤ◌, ◌≤ℤ◌, arith, refl, sym, ap, ap₂, ◌∙◌, subst, ◌⊎◌, inl, inr}
use Rattle.std.specs.Prelude.{not, ◌&&◌}
use Rattle.std.proofs.lemmas.Int.{ints, by_lt_z}
use Rattle.std.proofs.lemmas.Bool.{cases_lt, cases_eq, ltb-true, ltb-false}
use Rattle.std.proofs.lemmas.List.{length-map}
use Rattle.dcx_math.specs.Rational.{ℚ, whole, ◌+ℚ◌, ◌-ℚ◌, ◌*ℚ◌, ◌/ℚ◌, neg_ℚ, ◌≤ℚ◌, ◌<ℚ◌}
use Rattle.dcx_math.specs.Sums.{rat_dot, rat_at, rat_sum_below, rat_scaled, along}
use Rattle.dcx_math.specs.IntegerSums.{int_dot}
use Rattle.dcx_math.proofs.Points.{wholes}
use Rattle.dcx_math.proofs.Ring.{ring, reads, /ℚ-is}
use Rattle.dcx_math.proofs.Orders.{+ℚ_comm, +ℚ_idr, +ℚ_idl, -ℚ_idr, *ℚ-zero, *ℚ_comm, ≤ℚ-from_≡, +ℚ-nonnegative, linear_eq, whole-≤ℤ, neg_ℚ-nonnegative}
use Rattle.dcx_math.proofs.Products.{/ℚ-unique, whole-<ℤ, *ℚ-nonnegative, *ℚ-nonpositive, *ℚ-positive, inverse-positive}
use Rattle.dcx_math.proofs.Orders.{<ℚ-≤ℚ}
use Rattle.dcx_math.proofs.Sums.{rat_sum_below-same, rat_sum_below-zero}
use Rattle.dcx_math.proofs.Vectors.{rat_dot-along, rat_at-rat_added, rat_at-rat_scaled, length-rat_scaled}
use Rattle.dcx_frac.specs.Frac.{value}
use Rattle.dcx_tab.specs.declared.rows.ColumnKind.TheVariants.{Unknown, Slack, Artificial}
use Rattle.dcx_tab.specs.declared.program.Program.{Program}
use Rattle.dcx_tab.specs.First.{first_tableau}
use Rattle.dcx_tab.specs.Rows.{Row, entry, row_at, basic_at, Solves}
use Rattle.dcx_tab.specs.Table.{Table, entry_at}
use Rattle.dcx_tab.specs.Program.{kind_at, is_plain, plain_count, entries_at, right_side_at}
use Rattle.dcx_tab.proofs.Programs.{from_plain, length_first, plain_count_le}
use Rattle.dcx_tab.proofs.RationalRows.{SolvesRational, solves_rational, full, dot_full, length_added}
use Rattle.dcx_simplex.specs.Run.{right_at, IsEntering, NoneEnters, NoneLeaves}
use Rattle.dcx_simplex.specs.Whole.{objective_row, phase_row}
use Rattle.dcx_simplex.specs.Basis.{IsBasic, IsIdle, lead_at}
use Rattle.dcx_simplex.specs.Start.{IsSumRow}
use Rattle.dcx_lp_answer.specs.declared.answer.LpAnswer.{LpAnswer}
use Rattle.dcx_lp_answer.specs.declared.answer.LpStatus.{LpStatus}
use Rattle.dcx_lp_answer.specs.declared.answer.LpStatus.TheVariants as status
use Rattle.dcx_lp_answer.specs.Notes.{numbers, reduced_cost_of}
use Rattle.dcx_simplex.specs.Reading.{IsColumnNumber, IsColumnChange, IsReading, IsRayReading, cost_at, read_row, reduced_cost_at, IsOwnColumn}
use Rattle.dcx_lp_answer.specs.Right.{IsSolution, IsAssignment, IsOneSided, HasSigns, is_inequality, offset, row_at_columns, cost_at_columns}
use Rattle.dcx_lp_answer.specs.Right.{combined_rows, multiplier_at, turned_if, IsOptimalAnswer, IsInfeasibleAnswer, IsUnboundedAnswer}
use Rattle.dcx_simplex.proofs.Starts.{starts}
use Rattle.dcx_simplex.proofs.EndFacts.{IsEnded, readable, not_basic_of}
use Rattle.dcx_simplex.proofs.Cycle.{is_basic}
use Rattle.dcx_simplex.proofs.Owns.{slack_low, own_low}
use Rattle.dcx_simplex.proofs.Slacks.{Own, find_slack, HasSlack, HasNone}
use Rattle.dcx_simplex.proofs.OwnColumns.{own_column, own_column_is}
use Rattle.dcx_simplex.proofs.Bounds.{short, put_out, length_put_out, dot_put_out, rest, put_out_solves, rates, cost_bound, first_solved, first_cost, lead_some_of}
use Rattle.dcx_simplex.proofs.Multipliers.{HasNotes, combined_is, factor_positive}
use Rattle.dcx_simplex.proofs.Sides.{columns_opposite, not_both}
use Rattle.dcx_simplex.proofs.Last.{rat_at-past, dot_none, dot_low, quotient_low, at_cost_of, at_phase_of}
use Rattle.dcx_simplex.proofs.Last.{numbers_solve, numbers_high, numbers_none, changes_solve, changes_high, changes_none}

-- ---- facts of rationals
from_less : (a b : ℚ) → a +ℚ b *ℚ whole (negsuc 0) ≡ whole (pos 0) → a ≡ b
from_less a b e = linear_eq (a ∷ b ∷ []) e (search reads depth 30) tt

from_less_two : (a b c : ℚ) → (a +ℚ b) +ℚ c *ℚ whole (negsuc 0) ≡ whole (pos 0) → a +ℚ b ≡ c
from_less_two a b c e = linear_eq (a ∷ b ∷ c ∷ []) e (search reads depth 30) tt

solved_cost : (d l z r : ℚ) → (d +ℚ l *ℚ z) +ℚ r *ℚ whole (negsuc 0) ≡ whole (pos 0) → z *ℚ l ≡ r -ℚ d
solved_cost d l z r e = linear_eq (d ∷ l ∷ z ∷ r ∷ []) e (search reads depth 30) tt

solved_right : (a r : ℚ) → a +ℚ r *ℚ whole (pos 0) ≡ whole (pos 0) → a ≡ whole (pos 0)
solved_right a r e = linear_eq (a ∷ r ∷ []) e (search reads depth 30) tt

solved_change : (d l z r : ℚ) → (d +ℚ l *ℚ neg_ℚ z) +ℚ r *ℚ whole (pos 0) ≡ whole (pos 0) → d ≡ l *ℚ z
solved_change d l z r e = linear_eq (d ∷ l ∷ z ∷ r ∷ []) e (search reads depth 30) tt

sum_is_w : (d z w v : ℚ) → ((d +ℚ whole (pos 0) *ℚ z) +ℚ whole (negsuc 0) *ℚ w) +ℚ whole (pos 0) *ℚ v ≡ whole (pos 0) → w ≡ d
sum_is_w d z w v e = linear_eq (d ∷ z ∷ w ∷ v ∷ []) (sym e) (search reads depth 30) tt

fallen_cost : (r d k s l z : ℚ) → l ≢ whole (pos 0) → z *ℚ l ≡ r -ℚ d → (r -ℚ (d +ℚ k *ℚ (l *ℚ s))) /ℚ l ≡ z -ℚ k *ℚ s
fallen_cost r d k s l z n e = /ℚ-unique (r -ℚ (d +ℚ k *ℚ (l *ℚ s))) l (z -ℚ k *ℚ s) n (linear_eq (r ∷ d ∷ k ∷ s ∷ l ∷ z ∷ []) e (search reads depth 30 fits 4000) tt)

quotient_positive : (a l : ℤ) → pos 0 <ℤ a → pos 0 <ℤ l → whole (pos 0) <ℚ (whole a /ℚ whole l)
quotient_positive a l h q = subst (λ x. whole (pos 0) <ℚ x) (sym (/ℚ-is (whole a) (whole l))) (*ℚ-positive (whole-<ℤ (pos 0) a h) (inverse-positive (whole-<ℤ (pos 0) l q)))

both_none : (k : ℚ) {x y : ℚ} → x ≡ whole (pos 0) → y ≡ whole (pos 0) → x +ℚ k *ℚ y ≡ whole (pos 0)
both_none k {x} {y} e f = ap₂ (λ a b. a +ℚ k *ℚ b) e f ∙ ring (k ∷ []) (search reads depth 30) tt

none_added : (k x : ℚ) → x +ℚ k *ℚ whole (pos 0) ≡ x
none_added k x = ring (k ∷ x ∷ []) (search reads depth 30) tt

product_low : (a : ℤ) (x : ℚ) → a ≤ℤ pos 0 → whole (pos 0) ≤ℚ x → (whole a *ℚ x) ≤ℚ whole (pos 0)
product_low a x h q = subst (λ y. y ≤ℚ whole (pos 0)) (*ℚ_comm x (whole a)) (*ℚ-nonpositive q (whole-≤ℤ a (pos 0) h))

product_none : (a x : ℚ) → x ≡ whole (pos 0) → (a *ℚ x) ≤ℚ whole (pos 0)
product_none a x e = ≤ℚ-from_≡ (ap (λ y. a *ℚ y) e ∙ *ℚ-zero a)

sign_of : (inequality negated : Bool) (s : LpStatus) (r f : ℚ) → inequality ≡ true → offset s true ≡ whole (pos 0) → whole (pos 0) ≤ℚ r → whole (pos 0) ≤ℚ f
    → whole (pos 0) ≤ℚ turned_if (not inequality && negated) ((r -ℚ offset s inequality) *ℚ f)
sign_of true negated s r f h e p q = *ℚ-nonnegative (subst (λ x. whole (pos 0) ≤ℚ (r -ℚ x)) (sym e) (subst (λ x. whole (pos 0) ≤ℚ x) (sym (-ℚ_idr r)) p)) q
sign_of false negated s r f h e p q = cc

no_offset : (s : LpStatus) → offset s true ≡ whole (pos 0)
no_offset status.Optimal = refl
no_offset status.Infeasible = refl
no_offset status.Unbounded = refl

pub optimal_offset : (s : LpStatus) → s ≡ status.Optimal → (b : Bool) → offset s b ≡ whole (pos 0)
optimal_offset status.Optimal e b = refl
optimal_offset status.Infeasible e b = cc
optimal_offset status.Unbounded e b = cc

module _ (p : Program) (u : Table) (end : IsEnded (first_tableau p).rows (first_tableau p) u) where
  pub columns_are : u.columns ≡ length p.columns
  columns_are = end.kin.columns

  pub rows_are : length u.rows ≡ length p.rows + 2
  rows_are = end.kin.rows ∙ length_first p.rows p.columns p.objective p.phase p.form

  plain_is : u.plain ≡ plain_count p.columns
  plain_is = end.kin.plain

  positive_lead : pos 0 <ℤ lead_at u (objective_row u)
  positive_lead = (readable (first_tableau p).rows (first_tableau p) (starts p.rows p.columns p.objective p.phase p.form) u end).lead

  positive_phase : pos 0 <ℤ lead_at u (phase_row u)
  positive_phase = (readable (first_tableau p).rows (first_tableau p) (starts p.rows p.columns p.objective p.phase p.form) u end).phase_lead

  -- ---- the columns of an answer
  module _ (s : LpStatus) (a : LpAnswer) (reading : IsReading p.rows p.columns u s a) where
    count : length (numbers a.columns) ≡ u.columns
    count = length-map a.columns value ∙ reading.columns ∙ sym columns_are

    count_p : length (numbers a.columns) ≡ length p.columns
    count_p = length-map a.columns value ∙ reading.columns

    columns : (j : ℕ) → j < u.columns → IsColumnNumber u j (rat_at (numbers a.columns) j)
    columns j h = let e = columns_are in reading.column j (omega (arith, e, h))

    solved : SolvesRational (first_tableau p).rows (full (numbers a.columns) (cost_at u (objective_row u)) (cost_at u (phase_row u)) (whole (negsuc 0)))
    solved =
        solves_rational u.rows (first_tableau p).rows end.tableau.only _
        (numbers_solve (first_tableau p).rows (first_tableau p) (starts p.rows p.columns p.objective p.phase p.form) u end (numbers a.columns) count columns)

    pub solution : ((k : ℕ) → k + 2 < length u.rows → u.plain ≤ basic_at u.basis k → right_at u k ≡ pos 0) → IsSolution p (numbers a.columns)
    solution zeros = record {
      count = count_p;
      nonnegative = λ j h. let e = columns_are in
          numbers_high (first_tableau p).rows (first_tableau p) (starts p.rows p.columns p.objective p.phase p.form) u end (numbers a.columns) count columns j (omega (arith, e, h));
      artificial = λ j l h.
          let e = columns_are in
          let f = plain_is in
          numbers_none (first_tableau p).rows (first_tableau p) (starts p.rows p.columns p.objective p.phase p.form) u end (numbers a.columns) count columns j (omega (arith, e, h))
          (λ k q b. zeros k q (omega (arith, f, b, l)));
      rows = λ i h. from_less _ _ (first_solved p (numbers a.columns) _ _ (whole (negsuc 0)) count_p solved i h);
    }

    cost_lead : cost_at u (objective_row u) *ℚ whole p.objective.lead ≡ whole p.objective.right -ℚ rat_dot (wholes p.objective.entries) (numbers a.columns)
    cost_lead = solved_cost _ _ _ _ (first_cost p (numbers a.columns) _ _ (whole (negsuc 0)) count_p solved)

    pub attained : cost_at_columns p.objective (numbers a.columns) ≡ cost_at u (objective_row u)
    attained = /ℚ-unique _ _ _ (lead_some_of p.objective.lead p.form.cost.lead) cost_lead

    one_by : (j : ℕ) → j < length p.columns → ¬ (IsBasic u j) → rat_at (numbers a.columns) j ≡ whole (pos 0)
    one_by j h n = (reading.column j h).other n

    sides_by : (j k v : ℕ) → j < length p.columns → k < length p.columns → kind_at p.columns j ≡ Unknown v false → kind_at p.columns k ≡ Unknown v true → IsBasic u j ⊎ ¬ (IsBasic u j)
        → IsBasic u k ⊎ ¬ (IsBasic u k)
        → (rat_at (numbers a.columns) j ≡ whole (pos 0)) ⊎ (rat_at (numbers a.columns) k ≡ whole (pos 0))
    sides_by j k v h l e f (inr n) d = inl (one_by j h n)
    sides_by j k v h l e f (inl b) (inr n) = inr (one_by k l n)
    sides_by j k v h l e f (inl b) (inl d) = absurd (not_both p j k v h l e f u end b d)

    pub one_sided : IsOneSided p.columns (numbers a.columns)
    one_sided j k v h l e f = sides_by j k v h l e f (is_basic u j) (is_basic u k)

    -- ---- the multipliers of a row of costs
    module _ (k : ℕ) (read : read_row s u ≡ k) (none : NoneEnters k u) (positive : pos 0 <ℤ lead_at u k) where
      reduced : (i j : ℕ) → i < length p.rows → IsOwnColumn p.columns i j → rat_at (map reduced_cost_of a.rows) i ≡ neg_ℚ (whole (entry_at u k j) /ℚ whole (lead_at u k))
      reduced i j h own = reading.reduced_costs i j h own ∙ ap (λ q. reduced_cost_at u q j) read

      slack_plain : (i j : ℕ) → kind_at p.columns j ≡ Slack i → j < length p.columns → j < u.plain
      slack_plain i j e h = let f = plain_is in let t = ltb-true j (plain_count p.columns) (sym (p.form.ordered j h) ∙ ap is_plain e) in omega (arith, f, t)

      notes : (ys : List ℚ) (assigned : IsAssignment p ys) → HasNotes p a (row_at u.rows k) (lead_at u k) (own_column p)
      notes ys assigned = record {
        reduced = λ i h. let o = own_column_is p i h in reduced i _ h (subst (IsOwnColumn p.columns i) (sym o.1) o.0.own);
        factors = reading.factors;
        negated = reading.negated;
      }

      low_by : (ys : List ℚ) (assigned : IsAssignment p ys) (j : ℕ) → (j < u.plain) ⊎ (u.plain ≤ j) → (j < u.columns) ⊎ (u.columns ≤ j) → (whole (entry_at u k j) *ℚ rat_at ys j) ≤ℚ whole (pos 0)
      low_by ys assigned j (inl l) d =
          let e = columns_are in
          let f = plain_is in
          let g = plain_count_le p.columns in
          product_low (entry_at u k j) (rat_at ys j) (none j l) (assigned.nonnegative j (omega (arith, f, l, g)))
      low_by ys assigned j (inr l) (inl d) =
          let e = columns_are in
          let f = plain_is in
          let b = from_plain p.rows p.columns p.objective p.phase p.form j (omega (arith, f, l)) (omega (arith, e, d)) in
          product_none (whole (entry_at u k j)) (rat_at ys j) (assigned.artificial j b.row (omega (arith, e, d)) b.is)
      low_by ys assigned j (inr l) (inr d) = let e = columns_are in product_none (whole (entry_at u k j)) (rat_at ys j) (rat_at-past ys j (let c = assigned.count in omega (arith, c, e, d)))

      low : (ys : List ℚ) (assigned : IsAssignment p ys) → rat_dot (wholes (row_at u.rows k)) ys ≤ℚ whole (pos 0)
      low ys assigned = dot_low (row_at u.rows k) ys (λ j h. low_by ys assigned j (cases_lt j u.plain) (cases_lt j u.columns))

      sign_by : (i : ℕ) → i < length p.rows → is_inequality p.columns i ≡ true → HasSlack p.columns i ⊎ HasNone p.columns i → whole (pos 0) ≤ℚ multiplier_at p.columns a i
      sign_by i h t (inr n) = let e = sym t ∙ n.equality in cc
      sign_by i h t (inl c) =
          let l = slack_low p.columns c.column i c.is in
          let own : IsOwnColumn p.columns i c.column = record { kind = λ n. absurd (n c.is); first = λ q e. c.is } in
          let r = reduced i c.column h own in
          let high = neg_ℚ-nonnegative _ (quotient_low (entry_at u k c.column) (lead_at u k) (none c.column (slack_plain i c.column c.is l)) positive) in
          let f = ap (λ xs. rat_at xs i) reading.factors in
          sign_of (is_inequality p.columns i) _ a.status _ _ t (no_offset a.status) (subst (λ x. whole (pos 0) ≤ℚ x) (sym r) high)
          (subst (λ x. whole (pos 0) ≤ℚ x) (sym f) (<ℚ-≤ℚ (factor_positive p i h)))

      pub signs : HasSigns p a
      signs i h t = sign_by i h t (find_slack p.columns i)

      combined : (ys : List ℚ) (assigned : IsAssignment p ys) → combined_rows p a ys
          ≡ rates p ys assigned (row_at u.rows k) (lead_at u k) +ℚ rat_sum_below (length p.rows) (λ l. short p ys assigned l *ℚ offset a.status (is_inequality p.columns l))
      combined ys assigned = combined_is p ys assigned a (row_at u.rows k) (lead_at u k) (notes ys assigned)

  -- ---- the put out columns at the last tableau
  module _ (ys : List ℚ) (assigned : IsAssignment p ys) where
    put_solved : SolvesRational u.rows (full (put_out p ys assigned) (cost_at_columns p.objective ys) (rest p ys assigned) (whole (negsuc 0)))
    put_solved = solves_rational (first_tableau p).rows u.rows end.tableau.holds _ (put_out_solves p ys assigned)

    put_count : length (put_out p ys assigned) ≡ u.columns
    put_count = length_put_out p ys assigned ∙ sym columns_are

    enough : 2 ≤ length u.rows
    enough = let e = rows_are in omega (arith, e)

    put_cost : rat_dot (wholes (row_at u.rows (objective_row u))) (put_out p ys assigned) +ℚ whole (lead_at u (objective_row u)) *ℚ cost_at_columns p.objective ys
        ≡ whole (right_at u (objective_row u))
    put_cost =
        let e = enough in
        from_less_two _ _ _ (sym (at_cost_of (first_tableau p).rows (first_tableau p) (starts p.rows p.columns p.objective p.phase p.form) u end (put_out p ys assigned)
        (cost_at_columns p.objective ys) (rest p ys assigned) (whole (negsuc 0)) put_count) ∙ put_solved (objective_row u) (omega (arith, e)))

    put_phase : rat_dot (wholes (row_at u.rows (phase_row u))) (put_out p ys assigned) +ℚ whole (lead_at u (phase_row u)) *ℚ rest p ys assigned ≡ whole (right_at u (phase_row u))
    put_phase =
        let e = enough in
        from_less_two _ _ _ (sym (at_phase_of (first_tableau p).rows (first_tableau p) (starts p.rows p.columns p.objective p.phase p.form) u end (put_out p ys assigned)
        (cost_at_columns p.objective ys) (rest p ys assigned) (whole (negsuc 0)) put_count) ∙ put_solved (phase_row u) (omega (arith, e)))

    -- ---- the sum of the artificials
    no_offsets : (s : LpStatus) → ((b : Bool) → offset s b ≡ whole (pos 0)) → rat_sum_below (length p.rows) (λ l. short p ys assigned l *ℚ offset s (is_inequality p.columns l)) ≡ whole (pos 0)
    no_offsets s h = rat_sum_below-same (length p.rows) _ (λ _. whole (pos 0)) (λ l q. ap (λ x. short p ys assigned l *ℚ x) (h (is_inequality p.columns l)) ∙ *ℚ-zero (short p ys assigned l))
        ∙ rat_sum_below-zero (length p.rows)

    module _ (row : Row) (sum : IsSumRow (first_tableau p).rows (first_tableau p) row) where
      sum_solved : SolvesRational (row ∷ []) (full (put_out p ys assigned) (cost_at_columns p.objective ys) (rest p ys assigned) (whole (negsuc 0)))
      sum_solved = solves_rational (first_tableau p).rows (row ∷ []) (λ x h i l. by x h i l) _ (put_out_solves p ys assigned)
        where
          by : (x : List ℤ) → Solves (first_tableau p).rows x → (i : ℕ) → i < 1 → int_dot (row_at (row ∷ []) i) x ≡ pos 0
          by x h zero l = sum.holds x h
          by x h (suc i) l = absurd (omega arith)

      assigned_or : (j : ℕ) → (j < plain_count p.columns) ⊎ (plain_count p.columns ≤ j) → (j < length p.columns) ⊎ (length p.columns ≤ j) → (entry row j ≡ pos 0) ⊎ (rat_at ys j ≡ whole (pos 0))
      assigned_or j (inl l) d = inl (sum.zeros j l)
      assigned_or j (inr l) (inl d) = let b = from_plain p.rows p.columns p.objective p.phase p.form j l d in inr (assigned.artificial j b.row d b.is)
      assigned_or j (inr l) (inr d) = inr (rat_at-past ys j (let c = assigned.count in omega (arith, c, d)))

      ys_none : rat_dot (wholes row) ys ≡ whole (pos 0)
      ys_none = dot_none row ys (λ j h. assigned_or j (cases_lt j (plain_count p.columns)) (cases_lt j (length p.columns)))

      rest_is : rest p ys assigned ≡ rat_dot (wholes row) (put_out p ys assigned)
      rest_is =
          sum_is_w _ (cost_at_columns p.objective ys) (rest p ys assigned) (whole (negsuc 0))
          (ap₂ (λ b c. ((rat_dot (wholes row) (put_out p ys assigned) +ℚ b *ℚ cost_at_columns p.objective ys) +ℚ c *ℚ rest p ys assigned) +ℚ whole (pos 0) *ℚ whole (negsuc 0))
          (ap whole (sym sum.z)) (ap whole (sym sum.w))
          ∙ ap (λ d. ((rat_dot (wholes row) (put_out p ys assigned) +ℚ whole (entry row (length p.columns)) *ℚ cost_at_columns p.objective ys)
          +ℚ whole (entry row (length p.columns + 1)) *ℚ rest p ys assigned) +ℚ whole d *ℚ whole (negsuc 0)) (sym sum.right)
          ∙ sym (dot_full row (put_out p ys assigned) (cost_at_columns p.objective ys) (rest p ys assigned) (whole (negsuc 0)) (length p.columns) (length_put_out p ys assigned))
          ∙ sum_solved 0 (omega arith))

      offset_is : (i : ℕ) → i < length p.rows → (o : Own p.columns i) → ((kind_at p.columns o.column ≡ Slack i) × (is_inequality p.columns i ≡ true))
          ⊎ ((kind_at p.columns o.column ≡ Artificial i) × (is_inequality p.columns i ≡ false)) → whole (entry row o.column) ≡ offset status.Infeasible (is_inequality p.columns i)
      offset_is i h o (inl q) =
          let l = own_low p.columns i o.column o.own in
          ap whole (sum.zeros o.column (ltb-true o.column (plain_count p.columns) (sym (p.form.ordered o.column l) ∙ ap is_plain q.0))) ∙ ap (offset status.Infeasible) (sym q.1)
      offset_is i h o (inr q) =
          let l = own_low p.columns i o.column o.own in
          ap whole (sum.ones o.column (ltb-false o.column (plain_count p.columns) (sym (p.form.ordered o.column l) ∙ ap is_plain q.0)) l) ∙ ap (offset status.Infeasible) (sym q.1)

      rest_offsets : rest p ys assigned ≡ rat_sum_below (length p.rows) (λ l. short p ys assigned l *ℚ offset status.Infeasible (is_inequality p.columns l))
      rest_offsets =
          rest_is ∙ dot_put_out p ys assigned row ∙ ap (λ d. d +ℚ rat_sum_below (length p.rows) (λ l. short p ys assigned l *ℚ whole (entry row (own_column p l)))) ys_none
          ∙ +ℚ_idl _
          ∙ rat_sum_below-same (length p.rows) _ _ (λ l q. ap (λ x. short p ys assigned l *ℚ x) (let o = own_column_is p l q in ap (λ j. whole (entry row j)) o.1 ∙ offset_is l q o.0 o.0.kind))

  -- ---- an optimal answer
  pub optimal_right : (a : LpAnswer) → IsReading p.rows p.columns u status.Optimal a → NoneEnters (objective_row u) u
      → ((k : ℕ) → k + 2 < length u.rows → u.plain ≤ basic_at u.basis k → right_at u k ≡ pos 0) → IsOptimalAnswer p a
  optimal_right a reading none zeros = record {
    solution = solution status.Optimal a reading zeros;
    attained = attained status.Optimal a reading ∙ sym reading.number;
    signs = signs status.Optimal a reading (objective_row u) refl none positive_lead;
    bound = λ ys assigned.
        let b = cost_bound p ys assigned (row_at u.rows (objective_row u)) (lead_at u (objective_row u)) (cost_at_columns p.objective ys) (whole (right_at u (objective_row u))) positive_lead
        (put_cost ys assigned) (low status.Optimal a reading (objective_row u) refl none positive_lead ys assigned) in
        let c = combined status.Optimal a reading (objective_row u) refl none positive_lead ys assigned
        ∙ ap (λ x. rates p ys assigned (row_at u.rows (objective_row u)) (lead_at u (objective_row u)) +ℚ x) (no_offsets ys assigned a.status (optimal_offset a.status reading.status)) ∙ +ℚ_idr _ in
        subst (λ x. x ≤ℚ (cost_at_columns p.objective ys +ℚ combined_rows p a ys)) (sym reading.number) (subst (λ x. cost_at u (objective_row u) ≤ℚ (cost_at_columns p.objective ys +ℚ x)) (sym c) b);
    one_sided = one_sided status.Optimal a reading;
  }

  -- ---- an infeasible answer
  pub infeasible_right : (a : LpAnswer) → IsReading p.rows p.columns u status.Infeasible a → NoneEnters (phase_row u) u → pos 0 <ℤ right_at u (phase_row u) → IsInfeasibleAnswer p a
  infeasible_right a reading none high = record {
    gap = subst (λ x. whole (pos 0) <ℚ x) (sym reading.number) (quotient_positive (right_at u (phase_row u)) (lead_at u (phase_row u)) high positive_phase);
    signs = signs status.Infeasible a reading (phase_row u) refl none positive_phase;
    bound = λ ys assigned.
        let sum = (starts p.rows p.columns p.objective p.phase p.form).sum in
        let b = cost_bound p ys assigned (row_at u.rows (phase_row u)) (lead_at u (phase_row u)) (rest p ys assigned) (whole (right_at u (phase_row u))) positive_phase (put_phase ys assigned)
        (low status.Infeasible a reading (phase_row u) refl none positive_phase ys assigned) in
        let o = rest_offsets ys assigned sum.0 sum.1 in
        let c = combined status.Infeasible a reading (phase_row u) refl none positive_phase ys assigned
        ∙ ap (λ s. rates p ys assigned (row_at u.rows (phase_row u)) (lead_at u (phase_row u)) +ℚ rat_sum_below (length p.rows) (λ l. short p ys assigned l *ℚ offset s (is_inequality p.columns l)))
        reading.status
        ∙ ap (λ x. rates p ys assigned (row_at u.rows (phase_row u)) (lead_at u (phase_row u)) +ℚ x) (sym o) ∙ +ℚ_comm _ _ in
        subst (λ x. x ≤ℚ combined_rows p a ys) (sym reading.number) (subst (λ x. cost_at u (phase_row u) ≤ℚ x) (sym c) b);
    one_sided = one_sided status.Infeasible a reading;
  }

  -- ---- an unbounded answer
  module _ (a : LpAnswer) (c : ℕ) (reading : IsReading p.rows p.columns u status.Unbounded a) (ray : IsRayReading p.columns u c a) (enters : IsEntering (objective_row u) u c)
      (none : NoneLeaves u.plain u c) (idle : IsIdle u.plain u)
      (zeros : (k : ℕ) → k + 2 < length u.rows → u.plain ≤ basic_at u.basis k → right_at u k ≡ pos 0) where
    plain_below : u.plain ≤ u.columns
    plain_below = let e = columns_are in let f = plain_is in let g = plain_count_le p.columns in omega (arith, e, f, g)

    in_c : c < u.columns
    in_c = let e = enters.column in let f = plain_below in omega (arith, e, f)

    some_rows : 2 ≤ length u.rows
    some_rows = let e = rows_are in omega (arith, e)

    not_basic : ¬ (IsBasic u c)
    not_basic = let e = some_rows in
        not_basic_of (first_tableau p).rows (first_tableau p) (starts p.rows p.columns p.objective p.phase p.form) u end (objective_row u) c (omega (arith, e)) (omega (arith, e)) enters.eligible

    ray_count : length (numbers a.ray) ≡ u.columns
    ray_count = length-map a.ray value ∙ ray.ray ∙ sym columns_are

    ray_count_p : length (numbers a.ray) ≡ length p.columns
    ray_count_p = length-map a.ray value ∙ ray.ray

    ray_columns : (j : ℕ) → j < u.columns → IsColumnChange u c j (rat_at (numbers a.ray) j)
    ray_columns j h = let e = columns_are in ray.change j (omega (arith, e, h))

    ray_solved : SolvesRational (first_tableau p).rows (full (numbers a.ray) (neg_ℚ (whole (entry_at u (objective_row u) c) /ℚ whole (lead_at u (objective_row u))))
        (neg_ℚ (whole (entry_at u (phase_row u) c) /ℚ whole (lead_at u (phase_row u)))) (whole (pos 0)))
    ray_solved =
        solves_rational u.rows (first_tableau p).rows end.tableau.only _
        (changes_solve (first_tableau p).rows (first_tableau p) (starts p.rows p.columns p.objective p.phase p.form) u end c in_c not_basic (numbers a.ray) ray_count ray_columns)

    ray_row : (i : ℕ) → i < length p.rows → row_at_columns p i (numbers a.ray) ≡ whole (pos 0)
    ray_row i h = solved_right _ _ (first_solved p (numbers a.ray) _ _ (whole (pos 0)) ray_count_p ray_solved i h)

    ray_cost : rat_dot (wholes p.objective.entries) (numbers a.ray) ≡ whole p.objective.lead *ℚ value a.slope
    ray_cost = solved_change _ _ _ _ (first_cost p (numbers a.ray) _ _ (whole (pos 0)) ray_count_p ray_solved) ∙ ap (λ x. whole p.objective.lead *ℚ x) (sym ray.slope)

    not_up_by : (i : ℕ) → i + 2 < length u.rows → (basic_at u.basis i < u.plain) ⊎ (u.plain ≤ basic_at u.basis i) → entry_at u i c ≤ℤ pos 0
    not_up_by i h (inl l) = by_lt_z (pos 0) (entry_at u i c) (λ q. absurd (none i (record { row = h; kind = l; positive = q }))) (λ q. q)
    not_up_by i h (inr l) = let e = idle i h l c enters.column in omega (arith, ints, e)

    ray_high : (j : ℕ) → j < length p.columns → whole (pos 0) ≤ℚ rat_at (numbers a.ray) j
    ray_high j h =
        let e = columns_are in
        changes_high (first_tableau p).rows (first_tableau p) (starts p.rows p.columns p.objective p.phase p.form) u end c in_c not_basic (numbers a.ray) ray_count ray_columns
        (λ i l. not_up_by i l (cases_lt (basic_at u.basis i) u.plain)) j (omega (arith, e, h))

    ray_none : (j : ℕ) → plain_count p.columns ≤ j → j < length p.columns → rat_at (numbers a.ray) j ≡ whole (pos 0)
    ray_none j l h =
        let e = columns_are in
        let f = plain_is in
        let g = enters.column in
        changes_none (first_tableau p).rows (first_tableau p) (starts p.rows p.columns p.objective p.phase p.form) u end c in_c not_basic (numbers a.ray) ray_count ray_columns j
        (omega (arith, e, h)) (λ q. absurd (omega (arith, q, f, g, l)))
        (λ k q b. idle k q (omega (arith, b, f, l)) c enters.column)

    at_along : (k : ℚ) (j : ℕ) → rat_at (along (numbers a.columns) k (numbers a.ray)) j ≡ rat_at (numbers a.columns) j +ℚ k *ℚ rat_at (numbers a.ray) j
    at_along k j = rat_at-rat_added (numbers a.columns) (rat_scaled k (numbers a.ray)) j ∙ ap (λ x. rat_at (numbers a.columns) j +ℚ x) (rat_at-rat_scaled k (numbers a.ray) j)

    along_count : (k : ℚ) → length (along (numbers a.columns) k (numbers a.ray)) ≡ length p.columns
    along_count k =
        let e = count_p status.Unbounded a reading in
        let f = ray_count_p in
        length_added (numbers a.columns) (rat_scaled k (numbers a.ray)) (let g = length-rat_scaled k (numbers a.ray) in omega (arith, e, f, g)) ∙ e

    pub along_solution : (k : ℚ) → whole (pos 0) ≤ℚ k → IsSolution p (along (numbers a.columns) k (numbers a.ray))
    along_solution k h =
        let s = solution status.Unbounded a reading zeros in
        record {
          count = along_count k;
          nonnegative = λ j l. subst (λ x. whole (pos 0) ≤ℚ x) (sym (at_along k j)) (+ℚ-nonnegative (s.nonnegative j l) (*ℚ-nonnegative h (ray_high j l)));
          artificial = λ j l q. at_along k j ∙ both_none k (s.artificial j l q) (ray_none j l q);
          rows = λ i l. rat_dot-along (wholes (entries_at p.rows i)) (numbers a.columns) k (numbers a.ray) ∙ ap₂ (λ x y. x +ℚ k *ℚ y) (s.rows i l) (ray_row i l)
              ∙ none_added k (whole (right_side_at p.rows i));
        }

    along_cost : (k : ℚ) → cost_at_columns p.objective (along (numbers a.columns) k (numbers a.ray)) ≡ value a.number -ℚ k *ℚ value a.slope
    along_cost k =
        ap (λ d. (whole p.objective.right -ℚ d) /ℚ whole p.objective.lead)
        (rat_dot-along (wholes p.objective.entries) (numbers a.columns) k (numbers a.ray) ∙ ap (λ x. rat_dot (wholes p.objective.entries) (numbers a.columns) +ℚ k *ℚ x) ray_cost)
        ∙ fallen_cost (whole p.objective.right) (rat_dot (wholes p.objective.entries) (numbers a.columns)) k (value a.slope) (whole p.objective.lead) (cost_at u (objective_row u))
        (lead_some_of p.objective.lead p.form.cost.lead) (cost_lead status.Unbounded a reading)
        ∙ ap (λ x. x -ℚ k *ℚ value a.slope) (sym reading.number)

    -- the two columns of a free unknown
    ray_other : (j : ℕ) → j < length p.columns → ¬ (IsBasic u j) → j ≢ c → rat_at (numbers a.ray) j ≡ whole (pos 0)
    ray_other j h n m = (ray.change j h).other n m

    opposite_zero : (x y : ℤ) → x +ℤ y ≡ pos 0 → y ≡ pos 0 → pos 0 <ℤ x → ⊥
    opposite_zero x y e f h = absurd (omega (arith, ints, e, f, h))

    opposite_low : (x y : ℤ) → x +ℤ y ≡ pos 0 → x ≡ pos 0 → pos 0 <ℤ y → ⊥
    opposite_low x y e f h = absurd (omega (arith, ints, e, f, h))

    cost_basic : (j : ℕ) → IsBasic u j → entry_at u (objective_row u) j ≡ pos 0
    cost_basic j b = let e = some_rows in let g = b.1 in ap (entry_at u (objective_row u)) (sym b.2)
        ∙ (end.tableau.form.basic (objective_row u) (omega (arith, e))).zeros b.0 (let s = end.tableau.form.size in omega (arith, g, s)) (λ q. absurd (omega (arith, q, g, e)))

    ray_sides_by : (j k v : ℕ) → j < length p.columns → k < length p.columns → kind_at p.columns j ≡ Unknown v false → kind_at p.columns k ≡ Unknown v true → (j ≡ c) ⊎ (j ≢ c) → (k ≡ c) ⊎ (k ≢ c)
        → IsBasic u j ⊎ ¬ (IsBasic u j) → IsBasic u k ⊎ ¬ (IsBasic u k)
        → (rat_at (numbers a.ray) j ≡ whole (pos 0)) ⊎ (rat_at (numbers a.ray) k ≡ whole (pos 0))
    ray_sides_by j k v h l e f (inr m) y (inr n) z = inl (ray_other j h n m)
    ray_sides_by j k v h l e f x (inr m) y (inr n) = inr (ray_other k l n m)
    ray_sides_by j k v h l e f (inl x) (inl y) b d = let q : Unknown v false ≡ Unknown v true = sym e ∙ ap (kind_at p.columns) (x ∙ sym y) ∙ f in cc
    ray_sides_by j k v h l e f (inl x) (inr y) b (inl d) = let r = some_rows in
        absurd (opposite_zero _ _ (columns_opposite p j k v h l e f u end (objective_row u) (omega (arith, r))) (cost_basic k d)
        (subst (λ q. pos 0 <ℤ entry_at u (objective_row u) q) (sym x) enters.eligible))
    ray_sides_by j k v h l e f (inr x) (inl y) (inl b) d = let r = some_rows in
        absurd (opposite_low _ _ (columns_opposite p j k v h l e f u end (objective_row u) (omega (arith, r))) (cost_basic j b)
        (subst (λ q. pos 0 <ℤ entry_at u (objective_row u) q) (sym y) enters.eligible))
    ray_sides_by j k v h l e f (inr x) (inr y) (inl b) (inl d) = absurd (not_both p j k v h l e f u end b d)

    pub unbounded_right : IsUnboundedAnswer p a
    unbounded_right = record {
      slope = subst (λ x. whole (pos 0) <ℚ x) (sym ray.slope) (quotient_positive (entry_at u (objective_row u) c) (lead_at u (objective_row u)) enters.eligible positive_lead);
      solution = along_solution;
      cost = λ k h. ≤ℚ-from_≡ (along_cost k);
      one_sided = one_sided status.Unbounded a reading;
      one_sided_ray = λ j k v h l e f. ray_sides_by j k v h l e f (cases_eq j c) (cases_eq k c) (is_basic u j) (is_basic u k);
    }
