-- Two tableaus of a cycle: q leaves at t, and enters at t'.
use Rattle.std.proofs.Common.{◌≡◌, ◌≢◌, ℕ, zero, suc, ◌+◌, ◌<◌, ◌≤◌, List, [], ◌∷◌, length, ℤ, pos, ◌+ℤ◌, ◌*ℤ◌, neg_ℤ, ◌<ℤ◌, ◌≤ℤ◌, arith, refl, sym, ap, ◌∙◌, subst, ◌⊎◌, inl, inr}
use Rattle.std.proofs.lemmas.Int.{ints, by_lt_z}
use Rattle.std.proofs.lemmas.Bool.{cases_eq, cases_lt}
use Rattle.dcx_math.specs.Integers.{*ℤ-≤ℤ}
use Rattle.dcx_math.specs.IntegerSums.{int_dot, int_scaled}
use Rattle.dcx_tab.specs.Rows.{entry}
use Rattle.dcx_tab.proofs.RowLaws.{int_dot-unit, unit}
use Rattle.dcx_tab.specs.Rows.{Row, Assignment, row_at, basic_at, Solves}
use Rattle.dcx_tab.specs.Table.{Table, entry_at}
use Rattle.dcx_tab.proofs.Lagrange.{weighted, identity, d, o, d_pos, o_pos}
use Rattle.dcx_simplex.specs.Run.{IsNext, IsEntering, ComesFirst, right_at}
use Rattle.dcx_simplex.specs.Basis.{IsReady, IsBasic}
use Rattle.dcx_simplex.proofs.Moves.{may_all}
use Rattle.dcx_simplex.proofs.Numbers.{term_zero, term_low, term_negative, zero_times}
use Rattle.dcx_tab.proofs.Pivots.{times_zero}

weighted_low : (f : ℕ → ℤ) (bs : List ℕ) (row : Row) → ((k : ℕ) → k < length bs → (f k *ℤ entry row (basic_at bs k)) ≤ℤ pos 0) → weighted f bs row ≤ℤ pos 0
weighted_low f [] row h = omega (arith, ints)
weighted_low f (b ∷ bs) row h =
    let h0 = h 0 (omega arith) in
    let ih = weighted_low (λ k. f (suc k)) bs row (λ k l. h (suc k) (omega arith)) in
    omega (arith, ints, h0, ih)

-- where no term is above 0, one below 0 makes the sum negative
pub weighted_negative : (f : ℕ → ℤ) (bs : List ℕ) (row : Row) (i : ℕ) → i < length bs → ((k : ℕ) → k < length bs → (f k *ℤ entry row (basic_at bs k)) ≤ℤ pos 0)
    → (f i *ℤ entry row (basic_at bs i)) <ℤ pos 0
    → weighted f bs row <ℤ pos 0
weighted_negative f [] row i l h n = absurd (omega arith)
weighted_negative f (b ∷ bs) row zero l h n =
    let ih = weighted_low (λ k. f (suc k)) bs row (λ k l. h (suc k) (omega arith)) in
    omega (arith, ints, n, ih)
weighted_negative f (b ∷ bs) row (suc i) l h n =
    let h0 = h 0 (omega arith) in
    let ih = weighted_negative (λ k. f (suc k)) bs row i (omega arith) (λ k l. h (suc k) (omega arith)) n in
    omega (arith, ints, h0, ih)

weighted_none : (f : ℕ → ℤ) (bs : List ℕ) (row : Row) → ((k : ℕ) → k < length bs → entry row (basic_at bs k) ≡ pos 0) → weighted f bs row ≡ pos 0
weighted_none f [] row h = refl
weighted_none f (b ∷ bs) row h =
    let h0 = times_zero (f 0) (entry row b) (h 0 (omega arith)) in
    let ih = weighted_none (λ k. f (suc k)) bs row (λ k l. h (suc k) (omega arith)) in
    omega (arith, ints, h0, ih)

-- where all terms but one are 0
pub weighted_one : (f : ℕ → ℤ) (bs : List ℕ) (row : Row) (i : ℕ) → i < length bs → ((k : ℕ) → k < length bs → k ≢ i → entry row (basic_at bs k) ≡ pos 0)
    → weighted f bs row ≡ f i *ℤ entry row (basic_at bs i)
weighted_one f [] row i l h = absurd (omega arith)
weighted_one f (b ∷ bs) row zero l h =
    let ih = weighted_none (λ k. f (suc k)) bs row (λ k l. h (suc k) (omega arith) (omega arith)) in
    omega (arith, ints, ih)
weighted_one f (b ∷ bs) row (suc i) l h =
    let h0 = times_zero (f 0) (entry row b) (h 0 (omega arith) (omega arith)) in
    let ih = weighted_one (λ k. f (suc k)) bs row i (omega arith) (λ k l m. h (suc k) (omega arith) (λ e. m (omega arith))) in
    omega (arith, ints, h0, ih)

sum_negative : (d w s z : ℤ) → d *ℤ w +ℤ z ≡ pos 0 → pos 0 <ℤ d → w ≡ pos 1 *ℤ s → s ≤ℤ pos 0 → z <ℤ pos 0 → ⊥
sum_negative d w s z e hd f hs hz =
    let g : w ≤ℤ pos 0 = omega (arith, ints, f) in
    let m = *ℤ-≤ℤ d w (pos 0) (omega (arith, ints)) g in
    absurd (omega (arith, ints, m, e))

no_less : (a b c d : ℤ) → a ≡ pos 0 → c ≡ pos 0 → (a *ℤ b) <ℤ (c *ℤ d) → ⊥
no_less a b c d e f h = let x = zero_times a b e in let y = zero_times c d f in absurd (omega (arith, ints, x, y, h))

module _ (equations : List Row) (cost bound : ℕ) (t t' : Table) (ready : IsReady equations cost bound t) (ready' : IsReady equations cost bound t') (r s q : ℕ) (next : IsNext cost bound t r s)
    (enters : IsEntering cost t' q)
    (leaves : basic_at t.basis r ≡ q) (rows : length t'.rows ≡ length t.rows) (last : (k : ℕ) → k < length t.rows → length t.rows ≤ k + 2 → basic_at t'.basis k ≡ basic_at t.basis k)
    (below : s < q) (zero_r : right_at t r ≡ pos 0)
    (basic_or : (k : ℕ) → k + 2 < length t.rows → IsBasic t' (basic_at t.basis k) ⊎ ((basic_at t.basis k ≤ q) × (right_at t k ≡ pos 0))) where
  held : (x : Assignment) → Solves t.rows x → int_dot (row_at t'.rows cost) x ≡ pos 0
  held x h = ready'.tableau.holds x (ready.tableau.only x h) cost ready'.cost_row

  -- the ray of column s: the number of the k-th basic column, before its sign is turned, is w k times o' k
  w : ℕ → ℤ
  w k = int_dot (row_at t.rows k) (int_scaled (pos 1) (unit s))

  w_is : (k : ℕ) → w k ≡ pos 1 *ℤ entry_at t k s
  unfolding w
  w_is k = int_dot-unit (row_at t.rows k) (pos 1) s

  o' : ℕ → ℤ
  o' k = o (t.columns + 3) t.basis t.rows ready.tableau.form (row_at t'.rows cost) held k

  d' : ℤ
  d' = d (t.columns + 3) t.basis t.rows ready.tableau.form (row_at t'.rows cost) held

  d'_pos : pos 0 <ℤ d'
  unfolding d'
  d'_pos = d_pos (t.columns + 3) t.basis t.rows ready.tableau.form (row_at t'.rows cost) held

  o'_pos : (k : ℕ) → k < length t.rows → pos 0 <ℤ o' k
  unfolding o'
  o'_pos k h = o_pos (t.columns + 3) t.basis t.rows ready.tableau.form (row_at t'.rows cost) held k h

  total : d' *ℤ int_dot (row_at t'.rows cost) (int_scaled (pos 1) (unit s)) +ℤ weighted (λ k. neg_ℤ (w k *ℤ o' k)) t.basis (row_at t'.rows cost) ≡ pos 0
  unfolding d' o' w
  total = identity (t.columns + 3) t.basis t.rows ready.tableau.form (row_at t'.rows cost) held (int_scaled (pos 1) (unit s))

  cost_in : cost < length t.rows
  cost_in = ready.cost_row

  -- the cost row's own basic column
  at_cost : (neg_ℤ (w cost *ℤ o' cost) *ℤ entry_at t' cost (basic_at t.basis cost)) <ℤ pos 0
  at_cost = term_negative (w cost) (entry_at t cost s) (o' cost) _ (w_is cost) next.enters.eligible (o'_pos cost cost_in)
      (subst (λ b. pos 0 <ℤ entry_at t' cost b) (last cost cost_in ready.cost_last) (ready'.tableau.form.basic cost ready'.cost_row).positive)

  -- a column that is basic at t'
  basic_zero : (j : ℕ) → IsBasic t' j → entry_at t' cost j ≡ pos 0
  basic_zero j b =
      let h = b.1 in
      let z = (ready'.tableau.form.basic cost ready'.cost_row).zeros b.0 (omega (arith, ready'.tableau.form.size, h)) (λ e. let p = ready'.cost_last in absurd (omega (arith, h, e))) in
      ap (entry_at t' cost) (sym b.2) ∙ z

  last_zero : (k : ℕ) → k < length t.rows → length t.rows ≤ k + 2 → k ≢ cost → entry_at t' cost (basic_at t.basis k) ≡ pos 0
  last_zero k h l n =
      ap (entry_at t' cost) (sym (last k h l)) ∙ (ready'.tableau.form.basic cost ready'.cost_row).zeros k (omega (arith, ready'.tableau.form.size)) n

  -- row k has a positive entry at s, right side 0 and a basic column below q: so it comes before row r
  by_first : (k : ℕ) → basic_at t.basis k < q → right_at t k ≡ pos 0 → ComesFirst t s r k → ⊥
  by_first k l z (inl h) = no_less (right_at t r) (entry_at t k s) (right_at t k) (entry_at t r s) zero_r z h
  by_first k l z (inr h) = let e = leaves in let g = h.1 in absurd (omega (arith, e, g))

  not_first : (k : ℕ) → k + 2 < length t.rows → basic_at t.basis k < q → right_at t k ≡ pos 0 → pos 0 <ℤ entry_at t k s → ⊥
  not_first k h l z p =
      let kind : basic_at t.basis k < bound = may_all equations cost bound t ready r s next s k next.enters.column h p (cases_lt (basic_at t.basis k) bound) in
      by_first k l z (next.leaves.first k (record { row = h; kind = kind; positive = p }))

  not_q : (k : ℕ) → k < length t.rows → k ≢ r → basic_at t.basis k ≢ q
  not_q k h n e =
      let z = (ready.tableau.form.basic k h).zeros r (let p = next.leaves.may.row in omega (arith, ready.tableau.form.size)) (λ m. n (sym m)) in
      let p = (ready.tableau.form.basic k h).positive in
      let f : entry_at t k (basic_at t.basis k) ≡ pos 0 = ap (entry_at t k) (e ∙ sym leaves) ∙ z in
      absurd (omega (arith, ints, p, f))

  fickle_low : (k : ℕ) → k + 2 < length t.rows → k ≢ r → basic_at t.basis k ≤ q → right_at t k ≡ pos 0 → (neg_ℤ (w k *ℤ o' k) *ℤ entry_at t' cost (basic_at t.basis k)) ≤ℤ pos 0
  fickle_low k h n l z =
      let ne = not_q k (omega arith) n in
      let lt : basic_at t.basis k < q = omega (arith, ne) in
      by_lt_z (pos 0) (entry_at t k s)
      (λ p. absurd (not_first k h lt z p))
      (λ p. term_low (w k) (entry_at t k s) (o' k) _ (w_is k) p (o'_pos k (omega arith)) (enters.least (basic_at t.basis k) lt))

  row_low : (k : ℕ) → k + 2 < length t.rows → (k ≡ r) ⊎ (k ≢ r) → IsBasic t' (basic_at t.basis k) ⊎ ((basic_at t.basis k ≤ q) × (right_at t k ≡ pos 0))
      → (neg_ℤ (w k *ℤ o' k) *ℤ entry_at t' cost (basic_at t.basis k)) ≤ℤ pos 0
  row_low k h c (inl b) = term_zero (w k) (o' k) _ (basic_zero (basic_at t.basis k) b)
  row_low k h (inl e) (inr b) =
      let c' : pos 0 <ℤ entry_at t' cost (basic_at t.basis k) = subst (λ j. pos 0 <ℤ entry_at t' cost j) (sym (ap (basic_at t.basis) e ∙ leaves)) enters.eligible in
      let a' : pos 0 <ℤ entry_at t k s = subst (λ j. pos 0 <ℤ entry_at t j s) (sym e) next.leaves.may.positive in
      let x = term_negative (w k) (entry_at t k s) (o' k) _ (w_is k) a' (o'_pos k (omega arith)) c' in
      omega (arith, ints, x)
  row_low k h (inr n) (inr b) = fickle_low k h n b.0 b.1

  any_low : (k : ℕ) → k < length t.rows → (k + 2 < length t.rows) ⊎ (length t.rows ≤ k + 2) → (k ≡ cost) ⊎ (k ≢ cost) → (neg_ℤ (w k *ℤ o' k) *ℤ entry_at t' cost (basic_at t.basis k)) ≤ℤ pos 0
  any_low k h (inl l) c = row_low k l (cases_eq k r) (basic_or k l)
  any_low k h (inr l) (inl e) = subst (λ i. (neg_ℤ (w i *ℤ o' i) *ℤ entry_at t' cost (basic_at t.basis i)) ≤ℤ pos 0) (sym e) (let x = at_cost in omega (arith, ints, x))
  any_low k h (inr l) (inr n) = term_zero (w k) (o' k) _ (last_zero k h l n)

  pub clash : ⊥
  clash =
      let size = ready.tableau.form.size in
      let n = weighted_negative (λ k. neg_ℤ (w k *ℤ o' k)) t.basis (row_at t'.rows cost) cost (omega (arith, size, ready.cost_row))
      (λ k h. any_low k (omega (arith, size)) (cases_lt (k + 2) (length t.rows)) (cases_eq k cost)) at_cost in
      sum_negative d' _ (entry_at t' cost s) _ total d'_pos (int_dot-unit (row_at t'.rows cost) (pos 1) s) (enters.least s below) n
