-- A pivot of the dual simplex makes no cost positive, and no artificial basic.
use Rattle.std.proofs.Common.{◌≡◌, ◌≢◌, ℕ, ◌+◌, ◌-◌, ◌<◌, length, ℤ, pos, negsuc, ◌+ℤ◌, ◌-ℤ◌, ◌*ℤ◌, neg_ℤ, ◌<ℤ◌, ◌≤ℤ◌, arith, sym, ap, ◌∙◌, subst, ◌⊎◌, inl, inr}
use Rattle.std.proofs.lemmas.Int.{ints, by_lt_z}
use Rattle.std.proofs.lemmas.Bool.{cases_eq}
use Rattle.dcx_math.specs.Integers.{ring, *ℤ-≤ℤ, *ℤ-≤ℤ_cancel, *ℤ_comm}
use Rattle.dcx_tab.specs.Rows.{Row, row_at, entry, basic_at}
use Rattle.dcx_tab.specs.Pivot.{turned, eliminated}
use Rattle.dcx_tab.specs.Table.{Table, entry_at, after_pivot}
use Rattle.dcx_tab.proofs.Pivots.{at_other, step}
use Rattle.dcx_tab.proofs.Feasible.{cross_of}
use Rattle.dcx_tab.proofs.RowLaws.{entry-scaled}
use Rattle.dcx_tab.proofs.LineSteps.{turned_negative}
use Rattle.dcx_simplex.specs.Run.{NoneEnters}
use Rattle.dcx_simplex.specs.Whole.{objective_row}
use Rattle.dcx_simplex.proofs.Lengths.{length-after}
use Rattle.dcx_warm.specs.Install.{IsSound}
use Rattle.dcx_warm.specs.Dual.{IsLeaving, IsEntering, Repairs}
use Rattle.dcx_warm.specs.Dual.Repairs.{Repaired, Turns}
use Rattle.dcx_warm.proofs.Pivoting.{IsPivot, sound_next, basic_same, basic_other}
use Rattle.dcx_warm.proofs.Ratios.{weak, signed_le}
use Rattle.dcx_warm.proofs.Repairing.{is_pivot}

-- k n = u e + v f at a column, with u a = v p at the pivot's column
stays_low : (k u v n e f a p : ℤ) → pos 0 <ℤ k → pos 0 <ℤ u → pos 0 <ℤ p → k *ℤ n ≡ u *ℤ e +ℤ v *ℤ f → u *ℤ a ≡ v *ℤ p → e ≤ℤ pos 0 → a ≤ℤ pos 0
    → (f <ℤ pos 0 → (a *ℤ f +ℤ e *ℤ p) ≤ℤ pos 0) → n ≤ℤ pos 0
stays_low k u v n e f a p hk hu hp h c he ha ratio =
    by_lt_z f (pos 0)
    (λ l.
    let m = *ℤ-≤ℤ u (a *ℤ f +ℤ e *ℤ p) (pos 0) (omega (arith, ints, hu)) (ratio l) in
    let x = ap (λ z. z *ℤ f) c in
    let y = ap (λ z. p *ℤ z) h in
    let q : (p *ℤ (k *ℤ n)) ≤ℤ (p *ℤ pos 0) = simp ring (omega (arith, ints, simp ring at m, simp ring at x, simp ring at y)) in
    *ℤ-≤ℤ_cancel k n (pos 0) hk (let r = *ℤ-≤ℤ_cancel p (k *ℤ n) (pos 0) hp q in omega (arith, ints, r)))
    (λ l.
    let s = *ℤ-≤ℤ u a (pos 0) (omega (arith, ints, hu)) ha in
    let low : v ≤ℤ pos 0 = *ℤ-≤ℤ_cancel p v (pos 0) hp (let z : (u *ℤ a) ≤ℤ (p *ℤ pos 0) = omega (arith, ints, s) in omega (arith, ints, z, c, *ℤ_comm p v)) in
    let b = *ℤ-≤ℤ f v (pos 0) l low in
    let w = *ℤ-≤ℤ u e (pos 0) (omega (arith, ints, hu)) he in
    let r : (k *ℤ n) ≤ℤ pos 0 = omega (arith, ints, b, w, h, *ℤ_comm f v) in
    *ℤ-≤ℤ_cancel k n (pos 0) hk (omega (arith, ints, r)))

minus : (z : ℤ) → negsuc 0 *ℤ z ≡ neg_ℤ z
minus z = omega (arith, ints)

turned_entry : (c : ℕ) (row : Row) (j : ℕ) → entry row c <ℤ pos 0 → entry (turned c row) j ≡ neg_ℤ (entry row j)
turned_entry c row j h = ap (λ w. entry w j) (turned_negative c row h) ∙ entry-scaled (negsuc 0) row j ∙ minus (entry row j)

less_minus : (u e v f : ℤ) → u *ℤ e -ℤ v *ℤ neg_ℤ f ≡ u *ℤ e +ℤ v *ℤ f
less_minus u e v f = simp ring (omega (arith, ints))

ratio_low : (a f e q : ℤ) → (a *ℤ f) ≤ℤ (e *ℤ q) → (a *ℤ f +ℤ e *ℤ neg_ℤ q) ≤ℤ pos 0
ratio_low a f e q h = simp ring (omega (arith, ints, h))

module _ (t : Table) (r c : ℕ) (sound : IsSound t) (leaves : IsLeaving t r) (enters : IsEntering t r c) (costs : NoneEnters (objective_row t) t) where
  pivot : IsPivot t r c
  pivot = is_pivot t r c leaves enters

  in_r : r < length t.rows
  in_r = let h = pivot.row in omega (arith, h)

  in_o : objective_row t < length t.rows
  in_o = let h = pivot.row in omega (arith, h)

  other : objective_row t ≢ r
  other e = let h = pivot.row in absurd (omega (arith, h, e))

  negative : entry_at t r c <ℤ pos 0
  negative = enters.may.negative

  low_at : (j : ℕ) → j < t.plain → entry (eliminated c (turned c (row_at t.rows r)) (row_at t.rows (objective_row t))) j ≤ℤ pos 0
  low_at j l =
      let o = objective_row t in
      let s = step r c (t.columns + 3) t.basis t.rows sound in_r pivot.some o in_o other in
      let new = eliminated c (turned c (row_at t.rows r)) (row_at t.rows o) in
      let f = subst (λ z. s.k *ℤ entry new j ≡ s.u *ℤ entry_at t o j -ℤ s.v *ℤ z) (turned_entry c (row_at t.rows r) j negative) (s.entries j) in
      let g = subst (λ z. s.k *ℤ entry new c ≡ s.u *ℤ entry_at t o c -ℤ s.v *ℤ z) (turned_entry c (row_at t.rows r) c negative) (s.entries c) in
      let p : pos 0 <ℤ neg_ℤ (entry_at t r c) = let h = negative in omega (arith, ints, h) in
      stays_low s.k s.u s.v (entry new j) (entry_at t o j) (entry_at t r j) (entry_at t o c) (neg_ℤ (entry_at t r c)) s.k_pos s.u_pos p
      (f ∙ less_minus s.u (entry_at t o j) s.v (entry_at t r j))
      (cross_of s.k (entry new c) s.u (entry_at t o c) s.v (neg_ℤ (entry_at t r c)) g s.zero_at)
      (costs j l) (costs c enters.may.column)
      (λ h. ratio_low (entry_at t o c) (entry_at t r j) (entry_at t o j) (entry_at t r c)
      (signed_le (entry_at t o c) (entry_at t r j) (entry_at t o j) (entry_at t r c) (costs c enters.may.column) (omega (arith, ints, h)) (costs j l) (let n = negative in omega (arith, ints, n))
      (weak t r c j (enters.first j (record { column = l; negative = h })))))

  pub costs_next : NoneEnters (objective_row (after_pivot r c t)) (after_pivot r c t)
  costs_next j l =
      let e = at_other r c (t.columns + 3) t.basis t.rows sound in_r pivot.some (objective_row t) in_o other in
      let n : objective_row (after_pivot r c t) ≡ objective_row t = ap (λ k. k - 2) (length-after r c t) in
      subst (λ k. entry_at (after_pivot r c t) k j ≤ℤ pos 0) (sym n) (subst (λ w. entry w j ≤ℤ pos 0) (sym e) (low_at j l))

  plain_by : ((i : ℕ) → i + 2 < length t.rows → basic_at t.basis i < t.plain) → (i : ℕ) → i + 2 < length (after_pivot r c t).rows → (i ≡ r) ⊎ (i ≢ r) → basic_at (after_pivot r c t).basis i < t.plain
  plain_by f i h (inl e) = subst (λ k. basic_at (after_pivot r c t).basis k < t.plain) (sym e) (subst (λ k. k < t.plain) (sym (basic_same t r c sound pivot)) enters.may.column)
  plain_by f i h (inr n) = subst (λ k. k < t.plain) (sym (basic_other t r c i n)) (f i (let l = length-after r c t in omega (arith, l, h)))

  pub plain_next : ((i : ℕ) → i + 2 < length t.rows → basic_at t.basis i < t.plain) → (i : ℕ) → i + 2 < length (after_pivot r c t).rows → basic_at (after_pivot r c t).basis i < t.plain
  plain_next f i h = plain_by f i h (cases_eq i r)

module _ (limit : ℕ) (u : Table) (m : ℕ) where
  pub costs_kept : (t : Table) (n : ℕ) → Repairs limit u m t n → IsSound t → NoneEnters (objective_row t) t → NoneEnters (objective_row u) u
  costs_kept t n (Repaired f) h costs = costs
  costs_kept t n (Turns t' n' s d x y z rest) h costs = costs_kept (after_pivot s d t') (n' + 1) rest (sound_next t' s d h (is_pivot t' s d x y)) (costs_next t' s d h x y costs)

  pub plain_kept : (t : Table) (n : ℕ) → Repairs limit u m t n → IsSound t → ((i : ℕ) → i + 2 < length t.rows → basic_at t.basis i < t.plain) → NoneEnters (objective_row t) t
      → (i : ℕ) → i + 2 < length u.rows → basic_at u.basis i < u.plain
  plain_kept t n (Repaired f) h basics costs = basics
  plain_kept t n (Turns t' n' s d x y z rest) h basics costs =
      plain_kept (after_pivot s d t') (n' + 1) rest (sound_next t' s d h (is_pivot t' s d x y)) (plain_next t' s d h x y costs basics) (costs_next t' s d h x y costs)
