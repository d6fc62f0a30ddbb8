-- The ends of a run are right: phase 1 is bounded, optimal is least, infeasible has no point.
use Rattle.std.proofs.Common.{◌≡◌, ◌≢◌, ℕ, zero, suc, ◌+◌, ◌<◌, ◌≤◌, List, [], ◌∷◌, length, ℤ, pos, negsuc, ◌+ℤ◌, ◌*ℤ◌, neg_ℤ, ◌<ℤ◌, ◌≤ℤ◌, arith, sym, ap, ◌∙◌, subst, ◌⊎◌, inl, inr}
use Rattle.std.proofs.lemmas.Int.{ints, by_lt_z}
use Rattle.std.proofs.lemmas.Bool.{cases_eq, cases_lt}
use Rattle.std.proofs.lemmas.List.{get_or_past}
use Rattle.dcx_math.specs.Integers.{ring, *ℤ-≤ℤ, *ℤ-nonnegative, *ℤ-positive, *ℤ_comm}
use Rattle.dcx_math.specs.IntegerSums.{int_dot, int_scaled}
use Rattle.dcx_tab.specs.Rows.{entry}
use Rattle.dcx_tab.proofs.RowLaws.{int_dot-unit, unit}
use Rattle.dcx_tab.specs.Rows.{Row, Assignment, row_at, basic_at, Solves}
use Rattle.dcx_tab.specs.Table.{Table, entry_at, IsOf}
use Rattle.dcx_tab.proofs.Lagrange.{weighted, identity, d, o, o_pos, two_above}
use Rattle.dcx_simplex.specs.Run.{right_at, NoneLeaves, IsEntering, NoneEnters}
use Rattle.dcx_simplex.specs.Basis.{lead_at}
use Rattle.dcx_simplex.specs.Start.{IsSumRow}
use Rattle.dcx_simplex.specs.Meaning.{IsPoint}
use Rattle.dcx_simplex.proofs.Numbers.{zero_times}
use Rattle.dcx_tab.proofs.Pivots.{times_zero}

-- ---- sums of terms at least 0
weighted_high : (f : ℕ → ℤ) (bs : List ℕ) (row : Row) → ((k : ℕ) → k < length bs → pos 0 ≤ℤ (f k *ℤ entry row (basic_at bs k))) → pos 0 ≤ℤ weighted f bs row
weighted_high f [] row h = omega (arith, ints)
weighted_high f (b ∷ bs) row h =
    let h0 = h 0 (omega arith) in
    let ih = weighted_high (λ k. f (suc k)) bs row (λ k l. h (suc k) (omega arith)) in
    omega (arith, ints, h0, ih)

weighted_positive : (f : ℕ → ℤ) (bs : List ℕ) (row : Row) (i : ℕ) → i < length bs → ((k : ℕ) → k < length bs → pos 0 ≤ℤ (f k *ℤ entry row (basic_at bs k)))
    → pos 0 <ℤ (f i *ℤ entry row (basic_at bs i)) → pos 0 <ℤ weighted f bs row
weighted_positive f [] row i l h n = absurd (omega arith)
weighted_positive f (b ∷ bs) row zero l h n =
    let ih = weighted_high (λ k. f (suc k)) bs row (λ k l. h (suc k) (omega arith)) in
    omega (arith, ints, n, ih)
weighted_positive f (b ∷ bs) row (suc i) l h n =
    let h0 = h 0 (omega arith) in
    let ih = weighted_positive (λ k. f (suc k)) bs row i (omega arith) (λ k l. h (suc k) (omega arith)) n in
    omega (arith, ints, h0, ih)

high_zero : (w o c : ℤ) → c ≡ pos 0 → pos 0 ≤ℤ (neg_ℤ (w *ℤ o) *ℤ c)
high_zero w o c e = let h = times_zero (neg_ℤ (w *ℤ o)) c e in omega (arith, ints, h)

high_up : (w a o c : ℤ) → w ≡ pos 1 *ℤ a → a ≤ℤ pos 0 → pos 0 <ℤ o → pos 0 ≤ℤ c → pos 0 ≤ℤ (neg_ℤ (w *ℤ o) *ℤ c)
high_up w a o c e ha ho hc =
    let f : w ≤ℤ pos 0 = omega (arith, ints, e) in
    let m = *ℤ-≤ℤ o w (pos 0) (omega (arith, ints)) f in
    let g : pos 0 ≤ℤ neg_ℤ (w *ℤ o) = omega (arith, ints, m, *ℤ_comm o w) in
    *ℤ-nonnegative (neg_ℤ (w *ℤ o)) c g hc

high_strict : (w a o c : ℤ) → w ≡ pos 1 *ℤ a → pos 0 <ℤ a → pos 0 <ℤ o → c ≡ negsuc 0 → pos 0 <ℤ (neg_ℤ (w *ℤ o) *ℤ c)
high_strict w a o c e ha ho hc =
    let f : pos 0 <ℤ w = omega (arith, ints, e) in
    let m = *ℤ-positive w o f ho in
    let g : neg_ℤ (w *ℤ o) *ℤ c ≡ w *ℤ o = rw hc (omega (arith, ints)) in
    omega (arith, ints, g, m)

sum_not_positive : (d v a z : ℤ) → d *ℤ v +ℤ z ≡ pos 0 → v ≡ pos 1 *ℤ a → a ≡ pos 0 → pos 0 <ℤ z → ⊥
sum_not_positive d v a z e f h n = let g : v ≡ pos 0 = omega (arith, ints, f, h) in let m = times_zero d v g in absurd (omega (arith, ints, m, e, n))

-- ---- phase 1 is bounded: w is a sum of columns at least 0
module _ (equations : List Row) (t : Table) (tableau : IsOf equations t) (n : ℕ) (rows : length t.rows ≡ n + 2) (basics : (i : ℕ) → i + 2 < length t.rows → basic_at t.basis i < t.columns)
    (objective : basic_at t.basis n ≡ t.columns) (phase : basic_at t.basis (n + 1) ≡ t.columns + 1) (row : Row) (sum : IsSumRow equations t row) (c : ℕ) (enters : IsEntering (n + 1) t c)
    (none : NoneLeaves t.columns t c) where
  held : (x : Assignment) → Solves t.rows x → int_dot row x ≡ pos 0
  held x h = sum.holds x (tableau.only x h)

  w : ℕ → ℤ
  w k = int_dot (row_at t.rows k) (int_scaled (pos 1) (unit c))

  w_is : (k : ℕ) → w k ≡ pos 1 *ℤ entry_at t k c
  unfolding w
  w_is k = int_dot-unit (row_at t.rows k) (pos 1) c

  o' : ℕ → ℤ
  o' k = o (t.columns + 3) t.basis t.rows tableau.form row held k

  d' : ℤ
  d' = d (t.columns + 3) t.basis t.rows tableau.form row held

  o'_pos : (k : ℕ) → k < length t.rows → pos 0 <ℤ o' k
  unfolding o'
  o'_pos k h = o_pos (t.columns + 3) t.basis t.rows tableau.form row held k h

  total : d' *ℤ int_dot row (int_scaled (pos 1) (unit c)) +ℤ weighted (λ k. neg_ℤ (w k *ℤ o' k)) t.basis row ≡ pos 0
  unfolding d' o' w
  total = identity (t.columns + 3) t.basis t.rows tableau.form row held (int_scaled (pos 1) (unit c))

  not_up : (k : ℕ) → k + 2 < length t.rows → entry_at t k c ≤ℤ pos 0
  not_up k h = by_lt_z (pos 0) (entry_at t k c) (λ p. absurd (none k (record { row = h; kind = basics k h; positive = p }))) (λ l. l)

  row_high : (k : ℕ) → k + 2 < length t.rows → (basic_at t.basis k < t.plain) ⊎ (t.plain ≤ basic_at t.basis k) → pos 0 ≤ℤ (neg_ℤ (w k *ℤ o' k) *ℤ entry row (basic_at t.basis k))
  row_high k h (inl l) = high_zero (w k) (o' k) _ (sum.zeros (basic_at t.basis k) l)
  row_high k h (inr l) = let e = sum.ones (basic_at t.basis k) l (basics k h) in high_up (w k) (entry_at t k c) (o' k) _ (w_is k) (not_up k h) (o'_pos k (omega arith)) (omega (arith, ints, e))

  at_phase : pos 0 <ℤ (neg_ℤ (w (n + 1) *ℤ o' (n + 1)) *ℤ entry row (basic_at t.basis (n + 1)))
  at_phase = high_strict (w (n + 1)) (entry_at t (n + 1) c) (o' (n + 1)) _ (w_is (n + 1)) enters.eligible (o'_pos (n + 1) (omega (arith, rows))) (ap (entry row) phase ∙ sum.w)

  any_high : (k : ℕ) → k < length t.rows → (k < n) ⊎ (n ≤ k) → (k ≡ n) ⊎ (k ≢ n) → pos 0 ≤ℤ (neg_ℤ (w k *ℤ o' k) *ℤ entry row (basic_at t.basis k))
  any_high k h (inl l) e = row_high k (omega arith) (cases_lt (basic_at t.basis k) t.plain)
  any_high k h (inr l) (inl e) = high_zero (w k) (o' k) _ (ap (λ i. entry row (basic_at t.basis i)) e ∙ ap (entry row) objective ∙ sum.z)
  any_high k h (inr l) (inr f) =
      let e : k ≡ n + 1 = omega (arith, f) in
      subst (λ i. pos 0 ≤ℤ (neg_ℤ (w i *ℤ o' i) *ℤ entry row (basic_at t.basis i))) (sym e) (let x = at_phase in omega (arith, ints, x))

  pub bounded : ⊥
  bounded =
      let size = tableau.form.size in
      sum_not_positive d' _ (entry row c) _ total (int_dot-unit row (pos 1) c) (sum.zeros c enters.column)
      (weighted_positive (λ k. neg_ℤ (w k *ℤ o' k)) t.basis row (n + 1) (omega (arith, size)) (λ i g. any_high i (omega (arith, size)) (cases_lt i n) (cases_eq i n)) at_phase)

-- ---- the bound of a row of costs at most 0
term_cost : (c y : ℤ) → c ≤ℤ pos 0 → pos 0 ≤ℤ y → (c *ℤ y) ≤ℤ pos 0
term_cost c y h p = let m = *ℤ-≤ℤ y c (pos 0) p h in omega (arith, ints, m, *ℤ_comm y c)

term_none : (c y : ℤ) → y ≡ pos 0 → (c *ℤ y) ≤ℤ pos 0
term_none c y e = let m = times_zero c y e in omega (arith, ints, m)

term_nil : (c y : ℤ) → c ≡ pos 0 → (c *ℤ y) ≤ℤ pos 0
term_nil c y e = let m = zero_times c y e in omega (arith, ints, m)

module _ (t : Table) (row : Row) (a : ℕ) (width : length row ≡ t.columns + 3) (in_a : a < t.columns + 2) (costs : (j : ℕ) → j < t.plain → entry row j ≤ℤ pos 0)
    (zeros : (j : ℕ) → t.columns ≤ j → j < t.columns + 2 → j ≢ a → entry row j ≡ pos 0) (y : Assignment) (point : IsPoint t y) where
  low : (j : ℕ) → j ≢ a → j ≢ t.columns + 2 → (j < t.plain) ⊎ (t.plain ≤ j) → (j < t.columns) ⊎ (t.columns ≤ j) → (j < t.columns + 3) ⊎ (t.columns + 3 ≤ j) → (entry row j *ℤ entry y j) ≤ℤ pos 0
  low j n m (inl p) c l = term_cost (entry row j) (entry y j) (costs j p) (point.plain j p)
  low j n m (inr p) (inl c) l = term_none (entry row j) (entry y j) (point.artificial j p c)
  low j n m (inr p) (inr c) (inl l) = term_nil (entry row j) (entry y j) (zeros j c (omega (arith, m)) n)
  low j n m (inr p) (inr c) (inr l) = term_nil (entry row j) (entry y j) (get_or_past row j (pos 0) (omega (arith, width)))

  pub above : int_dot row y ≤ℤ (entry y a *ℤ entry row a +ℤ entry y (t.columns + 2) *ℤ entry row (t.columns + 2))
  above = two_above row y a (t.columns + 2) (λ e. absurd (omega (arith, e, in_a))) (λ j n m. low j n m (cases_lt j t.plain) (cases_lt j t.columns) (cases_lt j (t.columns + 3)))

module _ (equations : List Row) (t : Table) (tableau : IsOf equations t) (n : ℕ) (rows : length t.rows ≡ n + 2) (objective : basic_at t.basis n ≡ t.columns)
    (phase : basic_at t.basis (n + 1) ≡ t.columns + 1) (y : Assignment) (solves : Solves equations y) (point : IsPoint t y) where
  zeros_n : (j : ℕ) → t.columns ≤ j → j < t.columns + 2 → j ≢ t.columns → entry_at t n j ≡ pos 0
  zeros_n j h l m =
      let e : j ≡ t.columns + 1 = omega (arith, m) in
      ap (entry_at t n) (e ∙ sym phase) ∙ (tableau.form.basic n (omega (arith, rows))).zeros (n + 1) (let s = tableau.form.size in omega (arith, s, rows)) (λ f. absurd (omega (arith, f)))

  zeros_phase : (j : ℕ) → t.columns ≤ j → j < t.columns + 2 → j ≢ t.columns + 1 → entry_at t (n + 1) j ≡ pos 0
  zeros_phase j h l m =
      let e : j ≡ t.columns = omega (arith, m) in
      ap (entry_at t (n + 1)) (e ∙ sym objective) ∙ (tableau.form.basic (n + 1) (omega (arith, rows))).zeros n (let s = tableau.form.size in omega (arith, s, rows)) (λ f. absurd (omega (arith, f)))

  turn_bound : (v a z b r : ℤ) → v ≡ pos 0 → v ≤ℤ (z *ℤ a +ℤ b *ℤ r) → (r *ℤ neg_ℤ b) ≤ℤ (a *ℤ z)
  turn_bound v a z b r e h = let f : r *ℤ neg_ℤ b ≡ neg_ℤ (b *ℤ r) = simp ring in omega (arith, ints, e, h, f, *ℤ_comm z a)

  -- the objective at a point is at least the tableau's
  pub least : NoneEnters n t → (right_at t n *ℤ neg_ℤ (entry y (t.columns + 2))) ≤ℤ (lead_at t n *ℤ entry y t.columns)
  least none =
      let h = above t (row_at t.rows n) t.columns (tableau.form.widths n (omega (arith, rows))) (omega arith) none zeros_n y point in
      let v = tableau.holds y solves n (omega (arith, rows)) in
      subst (λ j. (right_at t n *ℤ neg_ℤ (entry y (t.columns + 2))) ≤ℤ (entry_at t n j *ℤ entry y t.columns)) (sym objective)
      (turn_bound _ (entry_at t n t.columns) (entry y t.columns) (entry y (t.columns + 2)) (right_at t n) v h)

  clear_bound : (v a z b r : ℤ) → v ≡ pos 0 → v ≤ℤ (z *ℤ a +ℤ b *ℤ r) → z ≤ℤ pos 0 → pos 0 <ℤ a → b <ℤ pos 0 → pos 0 <ℤ r → ⊥
  clear_bound v a z b r e h hz ha hb hr =
      let p : pos 0 <ℤ neg_ℤ b = omega (arith, ints) in
      let m = *ℤ-positive (neg_ℤ b) r p hr in
      let f : neg_ℤ b *ℤ r ≡ neg_ℤ (b *ℤ r) = simp ring in
      let g = *ℤ-≤ℤ a z (pos 0) (omega (arith, ints)) hz in
      absurd (omega (arith, ints, e, h, g, *ℤ_comm a z, m, f))

  w_of : (v w r b c : ℤ) → v ≡ pos 0 → v ≤ℤ (w *ℤ r +ℤ b *ℤ c) → r ≡ negsuc 0 → c ≡ pos 0 → w ≤ℤ pos 0
  w_of v w r b c e h hr hc =
      let f : w *ℤ r ≡ neg_ℤ w = rw hr (omega (arith, ints)) in
      let g = times_zero b c hc in
      omega (arith, ints, e, h, f, g)

  -- w is 0 at a point, and at most 0 will do
  w_low : (row : Row) → IsSumRow equations t row → entry y (t.columns + 1) ≤ℤ pos 0
  w_low row s =
      let h = above t row (t.columns + 1) s.width (omega arith) (λ j l. let e = s.zeros j l in omega (arith, ints, e))
      (λ j g l m. let e : j ≡ t.columns = omega (arith, m) in ap (entry row) e ∙ s.z) y point in
      w_of _ (entry y (t.columns + 1)) (entry row (t.columns + 1)) (entry y (t.columns + 2)) (entry row (t.columns + 2)) (s.holds y solves) h s.w s.right

  -- no point where the phase 1 row's right side is positive
  pub no_point : (row : Row) → IsSumRow equations t row → NoneEnters (n + 1) t → pos 0 <ℤ right_at t (n + 1) → ⊥
  no_point row s none p =
      let h = above t (row_at t.rows (n + 1)) (t.columns + 1) (tableau.form.widths (n + 1) (omega (arith, rows))) (omega arith) none zeros_phase y point in
      let v = tableau.holds y solves (n + 1) (omega (arith, rows)) in
      let a : pos 0 <ℤ entry_at t (n + 1) (t.columns + 1) = subst (λ j. pos 0 <ℤ entry_at t (n + 1) j) phase (tableau.form.basic (n + 1) (omega (arith, rows))).positive in
      clear_bound _ (entry_at t (n + 1) (t.columns + 1)) (entry y (t.columns + 1)) (entry y (t.columns + 2)) (right_at t (n + 1)) v h (w_low row s) a point.denominator p
