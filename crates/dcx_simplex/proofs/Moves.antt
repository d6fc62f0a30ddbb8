-- What a pivot of the rule does to the rows, in terms of the tableau before.
use Rattle.std.proofs.Common.{◌≡◌, ◌≢◌, ℕ, ◌+◌, ◌<◌, ◌≤◌, List, length, ℤ, pos, ◌-ℤ◌, ◌*ℤ◌, ◌<ℤ◌, arith, sym, ap, ◌∙◌, subst, ◌⊎◌, inl, inr}
use Rattle.std.proofs.lemmas.Int.{ints}
use Rattle.std.proofs.lemmas.Bool.{cases_eq, cases_lt}
use Rattle.std.proofs.lemmas.List.{get_or-set_same, get_or-set_other}
use Rattle.dcx_math.specs.Integers.{*ℤ_comm, *ℤ-positive}
use Rattle.dcx_math.proofs.IntegerLaws.{positive_some}
use Rattle.dcx_tab.specs.Rows.{entry, Row, row_at, basic_at}
use Rattle.dcx_tab.specs.Pivot.{turned, eliminated}
use Rattle.dcx_tab.specs.Table.{Table, entry_at, after_pivot, IsOf}
use Rattle.dcx_tab.proofs.Elimination.{pos_factor, zero_factor}
use Rattle.dcx_tab.proofs.Pivots.{at_r, at_other, step, IsTableauOf-pivoted, times_zero}
use Rattle.dcx_tab.proofs.Feasible.{cross_of}
use Rattle.dcx_simplex.specs.Run.{IsNext, right_at}
use Rattle.dcx_simplex.proofs.Keeps.{feasible_next}
use Rattle.dcx_simplex.proofs.Lengths.{length-after}
use Rattle.dcx_simplex.specs.Basis.{IsReady, lead_at, IsNotAbove, HasSameValue}
use Rattle.dcx_simplex.proofs.Numbers.{value_le, value_lt, value_same, zero_times}
use Rattle.dcx_tab.proofs.LineSteps.{turned_same}

-- row i, other than row r, after a pivot at row r and column c
pub record Moves (t : Table) (r c i : ℕ) : Type 0 where
  pub k : ℤ
  pub u : ℤ
  pub v : ℤ
  pub k_pos : pos 0 <ℤ k
  pub u_pos : pos 0 <ℤ u
  pub entries : (j : ℕ) → k *ℤ entry_at (after_pivot r c t) i j ≡ u *ℤ entry_at t i j -ℤ v *ℤ entry_at t r j
  pub cross : u *ℤ entry_at t i c ≡ v *ℤ entry_at t r c

module _ (equations : List Row) (t : Table) (is : IsOf equations t) (r c : ℕ) (in_r : r < length t.rows) (positive : pos 0 <ℤ entry_at t r c) where
  by_is : turned c (row_at t.rows r) ≡ row_at t.rows r
  by_is = turned_same (entry (row_at t.rows r) c) (row_at t.rows r) positive

  pub moves : (i : ℕ) → i < length t.rows → i ≢ r → Moves t r c i
  moves i h n =
      let s = step r c (t.columns + 3) t.basis t.rows is.form in_r (positive_some _ positive) i h n in
      let e = at_other r c (t.columns + 3) t.basis t.rows is.form in_r (positive_some _ positive) i h n in
      let new = eliminated c (turned c (row_at t.rows r)) (row_at t.rows i) in
      let all : (j : ℕ) → s.k *ℤ entry new j ≡ s.u *ℤ entry (row_at t.rows i) j -ℤ s.v *ℤ entry (row_at t.rows r) j =
      λ j. subst (λ b. s.k *ℤ entry new j ≡ s.u *ℤ entry (row_at t.rows i) j -ℤ s.v *ℤ entry b j) by_is (s.entries j) in
      record {
        k = s.k;
        u = s.u;
        v = s.v;
        k_pos = s.k_pos;
        u_pos = s.u_pos;
        entries = λ j. subst (λ w. s.k *ℤ entry w j ≡ s.u *ℤ entry (row_at t.rows i) j -ℤ s.v *ℤ entry (row_at t.rows r) j) (sym e) (all j);
        cross = cross_of s.k (entry new c) s.u (entry (row_at t.rows i) c) s.v (entry (row_at t.rows r) c) (all c) s.zero_at;
      }

  pub row_kept : row_at (after_pivot r c t).rows r ≡ row_at t.rows r
  row_kept = at_r r c (t.columns + 3) t.basis t.rows is.form in_r (positive_some _ positive) ∙ by_is

  pub basic_same : basic_at (after_pivot r c t).basis r ≡ c
  basic_same = get_or-set_same t.basis r c 0 (omega (arith, is.form.size))

  pub basic_other : (k : ℕ) → k ≢ r → basic_at (after_pivot r c t).basis k ≡ basic_at t.basis k
  basic_other k n = get_or-set_other t.basis r k c 0 n

positive_v : (u e v f : ℤ) → pos 0 <ℤ u → pos 0 <ℤ e → pos 0 <ℤ f → u *ℤ e ≡ v *ℤ f → pos 0 <ℤ v
positive_v u e v f hu he hf h = pos_factor f v (u *ℤ e) hf (*ℤ_comm f v ∙ sym h) (*ℤ-positive u e hu he)

zero_v : (u e v f : ℤ) → pos 0 <ℤ f → u *ℤ e ≡ v *ℤ f → e ≡ pos 0 → v ≡ pos 0
zero_v u e v f hf h z = zero_factor f v hf (*ℤ_comm f v ∙ sym h ∙ times_zero u e z)

-- n is 0 where e is, if f is 0 or v is
pub new_zero : (k u v n e f : ℤ) → pos 0 <ℤ k → k *ℤ n ≡ u *ℤ e -ℤ v *ℤ f → e ≡ pos 0 → v *ℤ f ≡ pos 0 → n ≡ pos 0
new_zero k u v n e f p h x y = zero_factor k n p (h ∙ (let z = times_zero u e x in omega (arith, ints, z, y)))

pub old_zero : (k u v n e f : ℤ) → pos 0 <ℤ u → k *ℤ n ≡ u *ℤ e -ℤ v *ℤ f → n ≡ pos 0 → v *ℤ f ≡ pos 0 → e ≡ pos 0
old_zero k u v n e f p h x y = zero_factor u e p (let z = times_zero k n x in omega (arith, ints, z, y))

module _ (equations : List Row) (cost bound : ℕ) (t : Table) (ready : IsReady equations cost bound t) (r c : ℕ) (next : IsNext cost bound t r c) where
  in_r : r < length t.rows
  in_r = let q = next.leaves.may.row in omega arith

  positive : pos 0 <ℤ entry_at t r c
  positive = next.leaves.may.positive

  row_of : (i : ℕ) → i < length t.rows → i ≢ r → Moves t r c i
  row_of i h n = moves equations t ready.tableau r c in_r positive i h n

  idle_by : (i : ℕ) → i + 2 < length t.rows → (i ≡ r) ⊎ (i ≢ r) → bound ≤ basic_at (after_pivot r c t).basis i → (j : ℕ) → j < t.plain → entry_at (after_pivot r c t) i j ≡ pos 0
  idle_by i h (inl e) b j l =
      let s = basic_same equations t ready.tableau r c in_r positive in
      let f = ap (basic_at (after_pivot r c t).basis) e in
      let p = ready.plain in
      let q = next.enters.column in
      absurd (omega (arith, s, f, b, p, q))
  idle_by i h (inr n) b j l =
      let o = basic_other equations t ready.tableau r c in_r positive i n in
      let b' : bound ≤ basic_at t.basis i = omega (arith, o, b) in
      let m = row_of i (omega arith) n in
      let v0 = zero_v m.u (entry_at t i c) m.v (entry_at t r c) positive m.cross (ready.idle i h b' c next.enters.column) in
      new_zero m.k m.u m.v (entry_at (after_pivot r c t) i j) (entry_at t i j) (entry_at t r j) m.k_pos (m.entries j) (ready.idle i h b' j l) (zero_times m.v (entry_at t r j) v0)

  basics_by : (i : ℕ) → i + 2 < length t.rows → (i ≡ r) ⊎ (i ≢ r) → basic_at (after_pivot r c t).basis i < t.columns
  basics_by i h (inl e) =
      let s = basic_same equations t ready.tableau r c in_r positive in
      let f = ap (basic_at (after_pivot r c t).basis) e in
      let p = ready.plain_below in
      let q = next.enters.column in
      omega (arith, s, f, p, q)
  basics_by i h (inr n) =
      let o = basic_other equations t ready.tableau r c in_r positive i n in
      let b = ready.basics i h in
      omega (arith, o, b)

  pub may_all : (x i : ℕ) → x < t.plain → i + 2 < length t.rows → pos 0 <ℤ entry_at t i x → (basic_at t.basis i < bound) ⊎ (bound ≤ basic_at t.basis i) → basic_at t.basis i < bound
  may_all x i l h p (inl q) = q
  may_all x i l h p (inr q) = absurd (positive_some _ p (ready.idle i h q x l))

  pub ready_next : IsReady equations cost bound (after_pivot r c t)
  ready_next =
      let e = length-after r c t in
      record {
        tableau = IsTableauOf-pivoted equations (t.columns + 3) t.basis t.rows r c ready.tableau in_r (positive_some _ positive);
        cost_row = let q = ready.cost_row in omega arith;
        cost_last = let q = ready.cost_last in omega arith;
        feasible = feasible_next equations cost bound r c t ready.tableau ready.feasible (λ x i l h p. may_all x i l h p (cases_lt (basic_at t.basis i) bound)) next;
        basics = λ i h. basics_by i (omega (arith, e, h)) (cases_eq i r);
        plain_below = ready.plain_below;
        plain = ready.plain;
        idle = λ i h b j l. idle_by i (omega (arith, e, h)) (cases_eq i r) b j l;
      }

  apart : cost ≢ r
  apart e = let p = ready.cost_last in let q = next.leaves.may.row in absurd (omega arith)

  -- the cost row
  cost_moves : Moves t r c cost
  cost_moves = row_of cost ready.cost_row apart

  pub lead_positive : pos 0 <ℤ lead_at t cost
  lead_positive = (ready.tableau.form.basic cost ready.cost_row).positive

  basic_cost : basic_at (after_pivot r c t).basis cost ≡ basic_at t.basis cost
  basic_cost = basic_other equations t ready.tableau r c in_r positive cost apart

  lead_moves : cost_moves.k *ℤ lead_at (after_pivot r c t) cost ≡ cost_moves.u *ℤ lead_at t cost
  lead_moves =
      let m = cost_moves in
      let f = (ready.tableau.form.basic r in_r).zeros cost (let q = ready.cost_row in omega (arith, ready.tableau.form.size)) apart in
      let z = times_zero m.v (entry_at t r (basic_at t.basis cost)) f in
      let e = m.entries (basic_at t.basis cost) in
      ap (λ b. m.k *ℤ entry_at (after_pivot r c t) cost b) basic_cost ∙ e ∙ omega (arith, ints, z)

  v_positive : pos 0 <ℤ cost_moves.v
  v_positive = let m = cost_moves in positive_v m.u (entry_at t cost c) m.v (entry_at t r c) m.u_pos next.enters.eligible positive m.cross

  -- the value doesn't rise
  pub value_falls : IsNotAbove cost (after_pivot r c t) t
  value_falls =
      let m = cost_moves in
      value_le m.k m.u m.v (right_at (after_pivot r c t) cost) (lead_at (after_pivot r c t) cost) (right_at t cost) (lead_at t cost) (right_at t r) m.k_pos v_positive lead_positive
      (ready.feasible r next.leaves.may.row) (m.entries (t.columns + 2)) lead_moves

  pub value_strict : pos 0 <ℤ right_at t r → (right_at (after_pivot r c t) cost *ℤ lead_at t cost) <ℤ (right_at t cost *ℤ lead_at (after_pivot r c t) cost)
  value_strict p =
      let m = cost_moves in
      value_lt m.k m.u m.v (right_at (after_pivot r c t) cost) (lead_at (after_pivot r c t) cost) (right_at t cost) (lead_at t cost) (right_at t r) m.k_pos v_positive lead_positive
      p (m.entries (t.columns + 2)) lead_moves

  pub value_stays : right_at t r ≡ pos 0 → HasSameValue cost (after_pivot r c t) t
  value_stays z =
      let m = cost_moves in
      value_same m.k m.u m.v (right_at (after_pivot r c t) cost) (lead_at (after_pivot r c t) cost) (right_at t cost) (lead_at t cost) (right_at t r) m.k_pos
      (m.entries (t.columns + 2)) lead_moves z

  -- where the leaving row's right side is 0, which right sides are 0 stays the same
  zero_after_by : (i : ℕ) → i < length t.rows → right_at t r ≡ pos 0 → (i ≡ r) ⊎ (i ≢ r) → right_at t i ≡ pos 0 → right_at (after_pivot r c t) i ≡ pos 0
  zero_after_by i h z (inl e) w = ap (λ q. entry_at (after_pivot r c t) q (t.columns + 2)) e ∙ ap (λ q. entry q (t.columns + 2)) (row_kept equations t ready.tableau r c in_r positive) ∙ z
  zero_after_by i h z (inr n) w =
      let m = row_of i h n in
      new_zero m.k m.u m.v _ _ _ m.k_pos (m.entries (t.columns + 2)) w (times_zero m.v (right_at t r) z)

  pub zero_after : (i : ℕ) → i < length t.rows → right_at t r ≡ pos 0 → right_at t i ≡ pos 0 → right_at (after_pivot r c t) i ≡ pos 0
  zero_after i h z w = zero_after_by i h z (cases_eq i r) w

  zero_before_by : (i : ℕ) → i < length t.rows → right_at t r ≡ pos 0 → (i ≡ r) ⊎ (i ≢ r) → right_at (after_pivot r c t) i ≡ pos 0 → right_at t i ≡ pos 0
  zero_before_by i h z (inl e) w = ap (right_at t) e ∙ z
  zero_before_by i h z (inr n) w =
      let m = row_of i h n in
      old_zero m.k m.u m.v _ _ _ m.u_pos (m.entries (t.columns + 2)) w (times_zero m.v (right_at t r) z)

  pub zero_before : (i : ℕ) → i < length t.rows → right_at t r ≡ pos 0 → right_at (after_pivot r c t) i ≡ pos 0 → right_at t i ≡ pos 0
  zero_before i h z w = zero_before_by i h z (cases_eq i r) w

  -- rows that never leave keep right side 0
  stays_by : (i : ℕ) → i + 2 < length t.rows → bound ≤ basic_at (after_pivot r c t).basis i → ((k : ℕ) → k + 2 < length t.rows → bound ≤ basic_at t.basis k → right_at t k ≡ pos 0)
      → (i ≡ r) ⊎ (i ≢ r) → right_at (after_pivot r c t) i ≡ pos 0
  stays_by i h b z (inl e) =
      let s = basic_same equations t ready.tableau r c in_r positive in
      let f = ap (basic_at (after_pivot r c t).basis) e in
      let p = ready.plain in
      let q = next.enters.column in
      absurd (omega (arith, s, f, b, p, q))
  stays_by i h b z (inr n) =
      let o = basic_other equations t ready.tableau r c in_r positive i n in
      let b' : bound ≤ basic_at t.basis i = omega (arith, o, b) in
      let m = row_of i (omega arith) n in
      let v0 = zero_v m.u (entry_at t i c) m.v (entry_at t r c) positive m.cross (ready.idle i h b' c next.enters.column) in
      new_zero m.k m.u m.v (right_at (after_pivot r c t) i) (right_at t i) (right_at t r) m.k_pos (m.entries (t.columns + 2)) (z i h b') (zero_times m.v (right_at t r) v0)

  pub zeros_next : ((k : ℕ) → k + 2 < length t.rows → bound ≤ basic_at t.basis k → right_at t k ≡ pos 0) → (k : ℕ) → k + 2 < length (after_pivot r c t).rows
      → bound ≤ basic_at (after_pivot r c t).basis k → right_at (after_pivot r c t) k ≡ pos 0
  zeros_next z k h b = stays_by k (omega (arith, length-after r c t, h)) b z (cases_eq k r)
