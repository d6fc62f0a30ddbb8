-- Where phase 1 ends with right side 0, the right sides of rows whose basic column is artificial are 0.
use Rattle.std.proofs.Common.{◌≡◌, ◌≢◌, ℕ, ◌+◌, ◌<◌, ◌≤◌, List, length, ℤ, pos, ◌+ℤ◌, ◌*ℤ◌, neg_ℤ, ◌<ℤ◌, ◌≤ℤ◌, arith, sym, ap, ◌∙◌, subst, ◌⊎◌, inl, inr}
use Rattle.std.proofs.lemmas.Int.{ints, by_lt_z}
use Rattle.std.proofs.lemmas.Bool.{cases_eq, cases_lt}
use Rattle.dcx_math.specs.Integers.{*ℤ-≤ℤ, *ℤ-nonnegative, *ℤ_comm}
use Rattle.dcx_math.specs.IntegerSums.{int_dot, int_scaled}
use Rattle.dcx_tab.specs.Rows.{entry}
use Rattle.dcx_tab.proofs.RowLaws.{int_dot-unit, unit}
use Rattle.dcx_tab.specs.Rows.{Row, Assignment, row_at, basic_at, Solves}
use Rattle.dcx_tab.specs.Table.{Table, IsOf}
use Rattle.dcx_tab.proofs.Lagrange.{weighted, identity, d, o, o_pos}
use Rattle.dcx_simplex.specs.Run.{right_at}
use Rattle.dcx_simplex.specs.Basis.{IsFeasible}
use Rattle.dcx_simplex.specs.Start.{IsSumRow}
use Rattle.dcx_simplex.proofs.Numbers.{term_zero, term_low, term_negative}
use Rattle.dcx_simplex.proofs.Clash.{weighted_negative}
use Rattle.dcx_tab.proofs.Pivots.{times_zero}

term_up : (w a o c : ℤ) → w ≡ pos 1 *ℤ a → pos 0 ≤ℤ a → pos 0 <ℤ o → pos 0 ≤ℤ c → (neg_ℤ (w *ℤ o) *ℤ c) ≤ℤ pos 0
term_up w a o c e ha ho hc =
    let f : pos 0 ≤ℤ w = omega (arith, ints, e) in
    let m = *ℤ-nonnegative w o f (omega (arith, ints)) in
    let g : neg_ℤ (w *ℤ o) ≤ℤ pos 0 = omega (arith, ints, m) in
    let n = *ℤ-≤ℤ c (neg_ℤ (w *ℤ o)) (pos 0) hc g in
    omega (arith, ints, n, *ℤ_comm c (neg_ℤ (w *ℤ o)))

sum_zero : (d v a z : ℤ) → d *ℤ v +ℤ z ≡ pos 0 → v ≡ pos 1 *ℤ a → a ≡ pos 0 → z <ℤ pos 0 → ⊥
sum_zero d v a z e f h n = let g : v ≡ pos 0 = omega (arith, ints, f, h) in let m = times_zero d v g in absurd (omega (arith, ints, m, e, n))

module _ (equations : List Row) (t : Table) (tableau : IsOf equations t) (feasible : IsFeasible t) (n : ℕ) (rows : length t.rows ≡ n + 2)
    (basics : (i : ℕ) → i + 2 < length t.rows → basic_at t.basis i < t.columns)
    (objective : basic_at t.basis n ≡ t.columns) (phase : basic_at t.basis (n + 1) ≡ t.columns + 1) (row : Row) (sum : IsSumRow equations t row) (low : right_at t (n + 1) ≤ℤ pos 0) where
  held : (x : Assignment) → Solves t.rows x → int_dot row x ≡ pos 0
  held x h = sum.holds x (tableau.only x h)

  w : ℕ → ℤ
  w k = int_dot (row_at t.rows k) (int_scaled (pos 1) (unit (t.columns + 2)))

  w_is : (k : ℕ) → w k ≡ pos 1 *ℤ right_at t k
  unfolding w
  w_is k = int_dot-unit (row_at t.rows k) (pos 1) (t.columns + 2)

  o' : ℕ → ℤ
  o' k = o (t.columns + 3) t.basis t.rows tableau.form row held k

  d' : ℤ
  d' = d (t.columns + 3) t.basis t.rows tableau.form row held

  o'_pos : (k : ℕ) → k < length t.rows → pos 0 <ℤ o' k
  unfolding o'
  o'_pos k h = o_pos (t.columns + 3) t.basis t.rows tableau.form row held k h

  total : d' *ℤ int_dot row (int_scaled (pos 1) (unit (t.columns + 2))) +ℤ weighted (λ k. neg_ℤ (w k *ℤ o' k)) t.basis row ≡ pos 0
  unfolding d' o' w
  total = identity (t.columns + 3) t.basis t.rows tableau.form row held (int_scaled (pos 1) (unit (t.columns + 2)))

  one_at : (k : ℕ) → k + 2 < length t.rows → t.plain ≤ basic_at t.basis k → entry row (basic_at t.basis k) ≡ pos 1
  one_at k h l = sum.ones (basic_at t.basis k) l (basics k h)

  row_low : (k : ℕ) → k + 2 < length t.rows → (basic_at t.basis k < t.plain) ⊎ (t.plain ≤ basic_at t.basis k) → (neg_ℤ (w k *ℤ o' k) *ℤ entry row (basic_at t.basis k)) ≤ℤ pos 0
  row_low k h (inl l) = term_zero (w k) (o' k) _ (sum.zeros (basic_at t.basis k) l)
  row_low k h (inr l) = let e = one_at k h l in term_up (w k) (right_at t k) (o' k) _ (w_is k) (feasible k h) (o'_pos k (omega arith)) (omega (arith, ints, e))

  any_low : (k : ℕ) → k < length t.rows → (k < n) ⊎ (n ≤ k) → (k ≡ n) ⊎ (k ≢ n) → (neg_ℤ (w k *ℤ o' k) *ℤ entry row (basic_at t.basis k)) ≤ℤ pos 0
  any_low k h (inl l) c = row_low k (omega arith) (cases_lt (basic_at t.basis k) t.plain)
  any_low k h (inr l) (inl e) = term_zero (w k) (o' k) _ (ap (λ i. entry row (basic_at t.basis i)) e ∙ ap (entry row) objective ∙ sum.z)
  any_low k h (inr l) (inr f) =
      let e : k ≡ n + 1 = omega (arith, f) in
      let c = ap (λ i. entry row (basic_at t.basis i)) e ∙ ap (entry row) phase ∙ sum.w in
      let a : right_at t k ≤ℤ pos 0 = subst (λ i. right_at t i ≤ℤ pos 0) (sym e) low in
      term_low (w k) (right_at t k) (o' k) _ (w_is k) a (o'_pos k h) (omega (arith, ints, c))

  not_positive : (k : ℕ) → k + 2 < length t.rows → t.plain ≤ basic_at t.basis k → pos 0 <ℤ right_at t k → ⊥
  not_positive k h l p =
      let size = tableau.form.size in
      let e = one_at k h l in
      sum_zero d' _ (entry row (t.columns + 2)) _ total (int_dot-unit row (pos 1) (t.columns + 2)) sum.right
      (weighted_negative (λ k. neg_ℤ (w k *ℤ o' k)) t.basis row k (omega (arith, size)) (λ i g. any_low i (omega (arith, size)) (cases_lt i n) (cases_eq i n))
      (term_negative (w k) (right_at t k) (o' k) _ (w_is k) p (o'_pos k (omega arith)) (omega (arith, ints, e))))

  pub artificials_zero : (k : ℕ) → k + 2 < length t.rows → t.plain ≤ basic_at t.basis k → right_at t k ≡ pos 0
  artificials_zero k h l =
      let f = feasible k h in
      by_lt_z (pos 0) (right_at t k) (λ p. absurd (not_positive k h l p)) (λ g. omega (arith, ints, f, g))
