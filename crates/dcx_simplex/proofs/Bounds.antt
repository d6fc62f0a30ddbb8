-- Any numbers of the unknowns' columns are put out by slacks and artificials to a solution of the rows, and so bound the cost.
use Rattle.std.proofs.Common.{◌≡◌, ◌≢◌, ℕ, ◌+◌, ◌<◌, ◌≤◌, List, [], ◌∷◌, ◌++◌, length, ℤ, pos, negsuc, ◌*ℤ◌, ◌<ℤ◌, arith, refl, sym, ap, ap₂, ◌∙◌, ◌⊎◌, inl, inr}
use Rattle.std.proofs.lemmas.Bool.{cases_lt}
use Rattle.dcx_math.specs.Rational.{ℚ, whole, ◌+ℚ◌, ◌-ℚ◌, ◌*ℚ◌, ◌/ℚ◌, ◌≤ℚ◌}
use Rattle.dcx_math.specs.Sums.{rat_dot, rat_added, rat_sum_below}
use Rattle.dcx_math.proofs.Points.{wholes}
use Rattle.dcx_math.proofs.Ring.{ring, reads}
use Rattle.dcx_math.proofs.Orders.{linear, <ℚ-≢, *ℚ-zero, +ℚ_idr, whole-*ℤ, *ℚ_comm, *ℚ_idl}
use Rattle.dcx_math.proofs.Products.{/ℚ-*ℚ, *ℚ-≤ℚ_cancel, whole-<ℤ}
use Rattle.dcx_math.proofs.Sums.{rat_sum_below-same, rat_sum_below-one, rat_sum_below-zero, rat_sum_below-*ℚ_right}
use Rattle.dcx_math.proofs.Vectors.{rat_dot-added_right}
use Rattle.dcx_tab.specs.declared.program.Program.{Program}
use Rattle.dcx_tab.specs.First.{first_tableau}
use Rattle.dcx_tab.specs.Rows.{Row, entry, row_at}
use Rattle.dcx_tab.specs.Program.{entries_at, entries_of, right_side_at, right_of}
use Rattle.dcx_tab.proofs.Programs.{has_row, map_at, length_first, at_row, at_objective, at_phase}
use Rattle.dcx_tab.proofs.RationalRows.{SolvesRational, full, dot_full, dot_front, placed, dot_placed, length_placed, length_added}
use Rattle.dcx_lp_answer.specs.Right.{IsAssignment, row_at_columns, cost_at_columns}
use Rattle.dcx_simplex.proofs.Starts.{entry_z, entry_w, entry_right}
use Rattle.dcx_simplex.proofs.OwnColumns.{own_column, own_column_low, sign_square, other_zero, own_cost_zero}

-- ---- the first tableau's rows at a full assignment
-- a row other than those of the cost and of the artificials
pub plain_row : (d a z b w c v : ℚ) → a ≡ whole (pos 0) → b ≡ whole (pos 0) → ((d +ℚ a *ℚ z) +ℚ b *ℚ w) +ℚ c *ℚ v ≡ d +ℚ c *ℚ v
plain_row d a z b w c v e f = rw (e, f) (ring (d ∷ z ∷ w ∷ c ∷ v ∷ []) (search reads depth 30) tt)

pub z_row : (d a z b w c v : ℚ) → b ≡ whole (pos 0) → ((d +ℚ a *ℚ z) +ℚ b *ℚ w) +ℚ c *ℚ v ≡ (d +ℚ a *ℚ z) +ℚ c *ℚ v
z_row d a z b w c v f = rw f (ring (d ∷ a ∷ z ∷ w ∷ c ∷ v ∷ []) (search reads depth 30) tt)

pub w_row : (d a z b w c v : ℚ) → a ≡ whole (pos 0) → ((d +ℚ a *ℚ z) +ℚ b *ℚ w) +ℚ c *ℚ v ≡ (d +ℚ b *ℚ w) +ℚ c *ℚ v
w_row d a z b w c v e = rw e (ring (d ∷ z ∷ b ∷ w ∷ c ∷ v ∷ []) (search reads depth 30) tt)

module _ (p : Program) (xs : List ℚ) (z w v : ℚ) (count : length xs ≡ length p.columns) where
  front : (es : List ℤ) (a b c : ℤ) → length es ≡ length p.columns → rat_dot (wholes (es ++ a ∷ b ∷ c ∷ [])) (full xs z w v)
      ≡ ((rat_dot (wholes es) xs +ℚ whole a *ℚ z) +ℚ whole b *ℚ w) +ℚ whole c *ℚ v
  front es a b c e =
      dot_full (es ++ a ∷ b ∷ c ∷ []) xs z w v (length p.columns) count
      ∙ ap (λ d. ((d +ℚ whole (entry (es ++ a ∷ b ∷ c ∷ []) (length p.columns)) *ℚ z) +ℚ whole (entry (es ++ a ∷ b ∷ c ∷ []) (length p.columns + 1)) *ℚ w)
      +ℚ whole (entry (es ++ a ∷ b ∷ c ∷ []) (length p.columns + 2)) *ℚ v) (dot_front es (a ∷ b ∷ c ∷ []) xs (omega (arith, e, count)))
      ∙ ap (λ q. ((rat_dot (wholes es) xs +ℚ whole q *ℚ z) +ℚ whole (entry (es ++ a ∷ b ∷ c ∷ []) (length p.columns + 1)) *ℚ w) +ℚ whole (entry (es ++ a ∷ b ∷ c ∷ []) (length p.columns + 2)) *ℚ v)
      (entry_z es a b c (length p.columns) e)
      ∙ ap (λ q. ((rat_dot (wholes es) xs +ℚ whole a *ℚ z) +ℚ whole q *ℚ w) +ℚ whole (entry (es ++ a ∷ b ∷ c ∷ []) (length p.columns + 2)) *ℚ v) (entry_w es a b c (length p.columns) e)
      ∙ ap (λ q. ((rat_dot (wholes es) xs +ℚ whole a *ℚ z) +ℚ whole b *ℚ w) +ℚ whole q *ℚ v) (entry_right es a b c (length p.columns) e)

  pub at_program_row : (i : ℕ) → i < length p.rows → rat_dot (wholes (row_at (first_tableau p).rows i)) (full xs z w v) ≡ row_at_columns p i xs +ℚ whole (right_side_at p.rows i) *ℚ v
  at_program_row i h =
      let r = has_row p.rows i h in
      let f = p.form.each_row i r.row r.is in
      ap (λ row. rat_dot (wholes row) (full xs z w v)) (at_row p.rows p.columns p.objective p.phase p.form i r.row h r.is)
      ∙ front r.row.entries (pos 0) (pos 0) r.row.right f.width ∙ plain_row _ _ z _ w _ v refl refl
      ∙ ap₂ (λ es b. rat_dot (wholes es) xs +ℚ whole b *ℚ v) (sym (map_at entries_of p.rows i r.row [] r.is)) (sym (map_at right_of p.rows i r.row (pos 0) r.is))

  pub at_program_cost : rat_dot (wholes (row_at (first_tableau p).rows (length p.rows))) (full xs z w v)
      ≡ (rat_dot (wholes p.objective.entries) xs +ℚ whole p.objective.lead *ℚ z) +ℚ whole p.objective.right *ℚ v
  at_program_cost =
      ap (λ row. rat_dot (wholes row) (full xs z w v)) (at_objective p.rows p.columns p.objective p.phase p.form)
      ∙ front p.objective.entries p.objective.lead (pos 0) p.objective.right p.form.cost.width ∙ z_row _ _ z _ w _ v refl

  pub at_program_phase : rat_dot (wholes (row_at (first_tableau p).rows (length p.rows + 1))) (full xs z w v)
      ≡ (rat_dot (wholes p.phase.entries) xs +ℚ whole p.phase.lead *ℚ w) +ℚ whole p.phase.right *ℚ v
  at_program_phase =
      ap (λ row. rat_dot (wholes row) (full xs z w v)) (at_phase p.rows p.columns p.objective p.phase p.form)
      ∙ front p.phase.entries (pos 0) p.phase.lead p.phase.right p.form.sum.width ∙ w_row _ _ z _ w _ v refl

  solves_by : ((i : ℕ) → i < length p.rows → row_at_columns p i xs +ℚ whole (right_side_at p.rows i) *ℚ v ≡ whole (pos 0))
      → (rat_dot (wholes p.objective.entries) xs +ℚ whole p.objective.lead *ℚ z) +ℚ whole p.objective.right *ℚ v ≡ whole (pos 0)
      → (rat_dot (wholes p.phase.entries) xs +ℚ whole p.phase.lead *ℚ w) +ℚ whole p.phase.right *ℚ v ≡ whole (pos 0)
      → (i : ℕ) → i < length p.rows + 2 → (i < length p.rows) ⊎ (length p.rows ≤ i) → (i < length p.rows + 1) ⊎ (length p.rows + 1 ≤ i)
      → rat_dot (wholes (row_at (first_tableau p).rows i)) (full xs z w v) ≡ whole (pos 0)
  solves_by f g h i l (inl a) b = at_program_row i a ∙ f i a
  solves_by f g h i l (inr a) (inl b) = let e : i ≡ length p.rows = omega (arith, a, b) in ap (λ k. rat_dot (wholes (row_at (first_tableau p).rows k)) (full xs z w v)) e ∙ at_program_cost ∙ g
  solves_by f g h i l (inr a) (inr b) = let e : i ≡ length p.rows + 1 = omega (arith, l, b) in ap (λ k. rat_dot (wholes (row_at (first_tableau p).rows k)) (full xs z w v)) e ∙ at_program_phase ∙ h

  -- the rows, the cost and the sum of the artificials hold
  pub solves_first : ((i : ℕ) → i < length p.rows → row_at_columns p i xs +ℚ whole (right_side_at p.rows i) *ℚ v ≡ whole (pos 0))
      → (rat_dot (wholes p.objective.entries) xs +ℚ whole p.objective.lead *ℚ z) +ℚ whole p.objective.right *ℚ v ≡ whole (pos 0)
      → (rat_dot (wholes p.phase.entries) xs +ℚ whole p.phase.lead *ℚ w) +ℚ whole p.phase.right *ℚ v ≡ whole (pos 0)
      → SolvesRational (first_tableau p).rows (full xs z w v)
  solves_first f g h i l = solves_by f g h i (let e = length_first p.rows p.columns p.objective p.phase p.form in omega (arith, e, l)) (cases_lt i (length p.rows)) (cases_lt i (length p.rows + 1))

  -- and the other way round
  pub first_solved : SolvesRational (first_tableau p).rows (full xs z w v) → (i : ℕ) → i < length p.rows → row_at_columns p i xs +ℚ whole (right_side_at p.rows i) *ℚ v ≡ whole (pos 0)
  first_solved s i h = let e = length_first p.rows p.columns p.objective p.phase p.form in sym (at_program_row i h) ∙ s i (omega (arith, e, h))

  pub first_cost : SolvesRational (first_tableau p).rows (full xs z w v) → (rat_dot (wholes p.objective.entries) xs +ℚ whole p.objective.lead *ℚ z) +ℚ whole p.objective.right *ℚ v ≡ whole (pos 0)
  first_cost s = let e = length_first p.rows p.columns p.objective p.phase p.form in sym at_program_cost ∙ s (length p.rows) (omega (arith, e))

pub lead_some_of : (l : ℤ) → pos 0 <ℤ l → whole l ≢ whole (pos 0)
lead_some_of l h e = <ℚ-≢ (whole-<ℤ (pos 0) l h) (sym e)

-- ---- sums that are 0
pub zero_right : (x y : ℚ) → y ≡ whole (pos 0) → x *ℚ y ≡ whole (pos 0)
zero_right x y e = rw e (*ℚ-zero x)

pub cancelled : (b : ℚ) → b +ℚ b *ℚ whole (negsuc 0) ≡ whole (pos 0)
cancelled b = ring (b ∷ []) (search reads depth 30) tt

-- the row of the cost, solved for the cost
pub cost_holds : (d l r : ℚ) → l ≢ whole (pos 0) → (d +ℚ l *ℚ ((r -ℚ d) /ℚ l)) +ℚ r *ℚ whole (negsuc 0) ≡ whole (pos 0)
cost_holds d l r n =
    let e : l *ℚ ((r -ℚ d) /ℚ l) ≡ r -ℚ d = *ℚ_comm l ((r -ℚ d) /ℚ l) ∙ /ℚ-*ℚ (r -ℚ d) l n in
    ap (λ u. (d +ℚ u) +ℚ r *ℚ whole (negsuc 0)) e ∙ ring (d ∷ r ∷ []) (search reads depth 30) tt

-- and that of the artificials for their sum
pub phase_holds : (d r : ℚ) (l : ℤ) → l ≡ pos 1 → (d +ℚ whole l *ℚ (r -ℚ d)) +ℚ r *ℚ whole (negsuc 0) ≡ whole (pos 0)
phase_holds d r l e = ap (λ u. (d +ℚ whole u *ℚ (r -ℚ d)) +ℚ r *ℚ whole (negsuc 0)) e ∙ ring (d ∷ r ∷ []) (search reads depth 30) tt

-- a number of either sign, times a factor, twice
pub twice : (s : ℤ) (t : ℚ) → s *ℤ s ≡ pos 1 → (whole s *ℚ t) *ℚ whole s ≡ t
twice s t e = ring (whole s ∷ t ∷ []) (search reads depth 30) tt ∙ ap (λ u. u *ℚ t) (sym (whole-*ℤ s s) ∙ ap whole e) ∙ *ℚ_idl t

-- ---- the slacks and artificials
module _ (p : Program) (ys : List ℚ) (assigned : IsAssignment p ys) where
  -- what row i is short of its right side, with the sign of its own column
  unfoldable pub short : ℕ → ℚ
  short i = whole (entry (entries_at p.rows i) (own_column p i)) *ℚ (whole (right_side_at p.rows i) -ℚ row_at_columns p i ys)

  pub put_out : List ℚ
  put_out = rat_added ys (placed short (own_column p) (length p.rows))

  pub length_put_out : length put_out ≡ length p.columns
  unfolding put_out
  length_put_out = let c = assigned.count in let l = length_placed short (own_column p) (length p.rows) (length p.columns) (own_column_low p) in
      length_added ys (placed short (own_column p) (length p.rows)) (omega (arith, c, l)) ∙ c

  -- a row's sum over the columns that were put out
  pub dot_put_out : (row : Row) → rat_dot (wholes row) put_out ≡ rat_dot (wholes row) ys +ℚ rat_sum_below (length p.rows) (λ k. short k *ℚ whole (entry row (own_column p k)))
  unfolding put_out
  dot_put_out row = rat_dot-added_right (wholes row) ys (placed short (own_column p) (length p.rows)) ∙ ap (λ u. rat_dot (wholes row) ys +ℚ u) (dot_placed row short (own_column p) (length p.rows))

  regain : (a b : ℚ) → a +ℚ (b -ℚ a) ≡ b
  regain a b = ring (a ∷ b ∷ []) (search reads depth 30) tt

  short_twice : (i : ℕ) → i < length p.rows → short i *ℚ whole (entry (entries_at p.rows i) (own_column p i)) ≡ whole (right_side_at p.rows i) -ℚ row_at_columns p i ys
  unfolding short
  short_twice i h = twice (entry (entries_at p.rows i) (own_column p i)) (whole (right_side_at p.rows i) -ℚ row_at_columns p i ys) (sign_square p i h)

  pub row_put_out : (i : ℕ) → i < length p.rows → row_at_columns p i put_out ≡ whole (right_side_at p.rows i)
  row_put_out i h =
      dot_put_out (entries_at p.rows i)
      ∙ ap (λ u. row_at_columns p i ys +ℚ u)
      (rat_sum_below-one (length p.rows) i (λ k. short k *ℚ whole (entry (entries_at p.rows i) (own_column p k))) h (λ k l n. zero_right (short k) _ (ap whole (other_zero p i k h l n)))
      ∙ short_twice i h)
      ∙ regain (row_at_columns p i ys) (whole (right_side_at p.rows i))

  pub cost_put_out : rat_dot (wholes p.objective.entries) put_out ≡ rat_dot (wholes p.objective.entries) ys
  cost_put_out =
      dot_put_out p.objective.entries
      ∙ ap (λ u. rat_dot (wholes p.objective.entries) ys +ℚ u) (rat_sum_below-same (length p.rows) _ (λ _. whole (pos 0)) (λ k l. zero_right (short k) _ (ap whole (own_cost_zero p k l)))
      ∙ rat_sum_below-zero (length p.rows))
      ∙ +ℚ_idr (rat_dot (wholes p.objective.entries) ys)

  pub rest : ℚ
  rest = whole p.phase.right -ℚ rat_dot (wholes p.phase.entries) put_out

  -- what was put out solves the rows, at the cost of the unknowns
  pub put_out_solves : SolvesRational (first_tableau p).rows (full put_out (cost_at_columns p.objective ys) rest (whole (negsuc 0)))
  unfolding rest
  put_out_solves =
      solves_first p put_out (cost_at_columns p.objective ys) rest (whole (negsuc 0)) length_put_out
      (λ i h. ap (λ u. u +ℚ whole (right_side_at p.rows i) *ℚ whole (negsuc 0)) (row_put_out i h) ∙ cancelled (whole (right_side_at p.rows i)))
      (ap (λ u. (u +ℚ whole p.objective.lead *ℚ cost_at_columns p.objective ys) +ℚ whole p.objective.right *ℚ whole (negsuc 0)) cost_put_out
      ∙ cost_holds (rat_dot (wholes p.objective.entries) ys) (whole p.objective.lead) (whole p.objective.right) (lead_some_of p.objective.lead p.form.cost.lead))
      (phase_holds (rat_dot (wholes p.phase.entries) put_out) (whole p.phase.right) p.phase.lead p.form.sum.lead)

  -- what the own columns have in a row, over its lead, times what the rows are short
  abbrev pub rates : Row → ℤ → ℚ
  rates row lead = rat_sum_below (length p.rows) (λ k. short k *ℚ (whole (entry row (own_column p k)) /ℚ whole lead))

  -- ---- the bound of a row of costs
  module _ (row : Row) (lead : ℤ) (x right : ℚ) (positive : pos 0 <ℤ lead) (holds : rat_dot (wholes row) put_out +ℚ whole lead *ℚ x ≡ right) (low : rat_dot (wholes row) ys ≤ℚ whole (pos 0)) where
    back : (a e l : ℚ) → l ≢ whole (pos 0) → (a *ℚ (e /ℚ l)) *ℚ l ≡ a *ℚ e
    back a e l n = ring (a ∷ e /ℚ l ∷ l ∷ []) (search reads depth 30) tt ∙ ap (λ u. a *ℚ u) (/ℚ-*ℚ e l n)

    rates_is : rates row lead *ℚ whole lead ≡ rat_sum_below (length p.rows) (λ k. short k *ℚ whole (entry row (own_column p k)))
    rates_is =
        sym (rat_sum_below-*ℚ_right (length p.rows) (whole lead) (λ k. short k *ℚ (whole (entry row (own_column p k)) /ℚ whole lead)))
        ∙ rat_sum_below-same (length p.rows) _ _ (λ k l. back (short k) (whole (entry row (own_column p k))) (whole lead) (lead_some_of lead positive))

    scaled_bound : (d s t l x r q : ℚ) → d ≤ℚ whole (pos 0) → (d +ℚ s) +ℚ l *ℚ x ≡ r → t *ℚ l ≡ s → q *ℚ l ≡ r → l *ℚ q ≤ℚ l *ℚ (x +ℚ t)
    scaled_bound d s t l x r q h e f g =
        let a : l *ℚ q ≡ (d +ℚ s) +ℚ l *ℚ x = *ℚ_comm l q ∙ g ∙ sym e in
        let b : l *ℚ (x +ℚ t) ≡ s +ℚ l *ℚ x = ring (l ∷ x ∷ t ∷ []) (search reads depth 30) tt ∙ ap (λ u. u +ℚ l *ℚ x) f in
        rw (a, b) (linear (d ∷ s ∷ l ∷ x ∷ []) h (search reads depth 30) tt)

    pub cost_bound : right /ℚ whole lead ≤ℚ (x +ℚ rates row lead)
    cost_bound =
        *ℚ-≤ℚ_cancel (whole-<ℤ (pos 0) lead positive)
        (scaled_bound (rat_dot (wholes row) ys) _ (rates row lead) (whole lead) x right (right /ℚ whole lead) low (ap (λ u. u +ℚ whole lead *ℚ x) (sym (dot_put_out row)) ∙ holds) rates_is
        (/ℚ-*ℚ right (whole lead) (lead_some_of lead positive)))
