-- Driving out keeps the right sides, and leaves rows with artificial basic column that are 0 at all other columns.
use Rattle.std.proofs.Common.{◌≡◌, ◌≢◌, ℕ, ◌+◌, ◌<◌, ◌≤◌, List, length, ℤ, pos, ◌-ℤ◌, ◌*ℤ◌, ◌<ℤ◌, ◌≤ℤ◌, arith, refl, sym, ap, ◌∙◌, subst, ◌⊎◌, inl, inr}
use Rattle.std.proofs.lemmas.Int.{ints}
use Rattle.std.proofs.lemmas.Bool.{cases_eq}
use Rattle.std.proofs.lemmas.List.{get_or-set_same, get_or-set_other}
use Rattle.dcx_math.specs.Integers.{*ℤ_comm, *ℤ-≤ℤ_cancel, *ℤ-nonnegative}
use Rattle.dcx_tab.specs.Rows.{entry, Row, row_at, basic_at}
use Rattle.dcx_tab.specs.Pivot.{turned, eliminated}
use Rattle.dcx_tab.specs.Table.{Table, entry_at, after_pivot, IsOf}
use Rattle.dcx_tab.proofs.Elimination.{zero_factor}
use Rattle.dcx_tab.proofs.Pivots.{turns, at_r, at_other, step, IsTableauOf-pivoted, times_zero}
use Rattle.dcx_simplex.specs.Run.{right_at}
use Rattle.dcx_simplex.specs.Drive.{IsDriver, IsLeft, Drives}
use Rattle.dcx_simplex.specs.Drive.Drives.{Begins, Leaves, Drives_out}
use Rattle.dcx_simplex.proofs.Lengths.{length-after}
use Rattle.dcx_simplex.specs.Basis.{IsFeasible}
use Rattle.dcx_simplex.proofs.Chains.{IsKin}
use Rattle.dcx_simplex.proofs.Moves.{new_zero}
use Rattle.dcx_simplex.proofs.Numbers.{zero_times}

-- where the rows below i have been looked at
pub record IsDriven (equations : List Row) (t : Table) (i : ℕ) (u : Table) : Type 0 where
  pub tableau : IsOf equations u
  pub kin : IsKin t u
  pub feasible : IsFeasible u
  pub basics : (k : ℕ) → k + 2 < length u.rows → basic_at u.basis k < u.columns
  pub plain_below : u.plain ≤ u.columns
  pub zeros : (k : ℕ) → k + 2 < length u.rows → u.plain ≤ basic_at u.basis k → right_at u k ≡ pos 0
  pub idle : (k : ℕ) → k < i → k + 2 < length u.rows → u.plain ≤ basic_at u.basis k → (c : ℕ) → c < u.plain → entry_at u k c ≡ pos 0

-- what the last part of a pivot does to a number, n of e, with f in the turned row
stays_up : (k u v n e f : ℤ) → pos 0 <ℤ k → pos 0 <ℤ u → k *ℤ n ≡ u *ℤ e -ℤ v *ℤ f → f ≡ pos 0 → pos 0 ≤ℤ e → pos 0 ≤ℤ n
stays_up k u v n e f hk hu h z p =
    let m = *ℤ-nonnegative u e (omega (arith, ints)) p in
    let q = times_zero v f z in
    *ℤ-≤ℤ_cancel k (pos 0) n hk (omega (arith, ints, m, q, h, times_zero k (pos 0) refl))

v_zero : (k u v n e p : ℤ) → pos 0 <ℤ p → k *ℤ n ≡ u *ℤ e -ℤ v *ℤ p → n ≡ pos 0 → e ≡ pos 0 → v ≡ pos 0
v_zero k u v n e p hp h x y =
    let a = times_zero k n x in
    let b = times_zero u e y in
    zero_factor p v hp (*ℤ_comm p v ∙ omega (arith, ints, a, b, h))

module _ (equations : List Row) (t : Table) (i : ℕ) (u : Table) (is : IsDriven equations t i u) (in_i : i + 2 < length u.rows) (stands : u.plain ≤ basic_at u.basis i) (c : ℕ)
    (driver : IsDriver u i c) where
  in_rows : i < length u.rows
  in_rows = omega arith

  zero_i : right_at u i ≡ pos 0
  zero_i = is.zeros i in_i stands

  abbrev pub by : Row
  by = turned c (row_at u.rows i)

  by_right : entry by (u.columns + 2) ≡ pos 0
  by_right = let f = turns c (row_at u.rows i) driver.some in f.entries (u.columns + 2) ∙ times_zero f.s _ zero_i

  new_at_i : row_at (after_pivot i c u).rows i ≡ by
  new_at_i = at_r i c (u.columns + 3) u.basis u.rows is.tableau.form in_rows driver.some

  new_other : (k : ℕ) → k < length u.rows → k ≢ i → row_at (after_pivot i c u).rows k ≡ eliminated c by (row_at u.rows k)
  new_other k h n = at_other i c (u.columns + 3) u.basis u.rows is.tableau.form in_rows driver.some k h n

  basic_i : basic_at (after_pivot i c u).basis i ≡ c
  basic_i = get_or-set_same u.basis i c 0 (omega (arith, is.tableau.form.size, in_rows))

  basic_k : (k : ℕ) → k ≢ i → basic_at (after_pivot i c u).basis k ≡ basic_at u.basis k
  basic_k k n = get_or-set_other u.basis i k c 0 n

  feasible_by : (k : ℕ) → k + 2 < length u.rows → (k ≡ i) ⊎ (k ≢ i) → pos 0 ≤ℤ right_at (after_pivot i c u) k
  feasible_by k h (inl e) =
      let f = ap (λ q. right_at (after_pivot i c u) q) e ∙ ap (λ r. entry r (u.columns + 2)) new_at_i ∙ by_right in
      omega (arith, ints, f)
  feasible_by k h (inr n) =
      let s = step i c (u.columns + 3) u.basis u.rows is.tableau.form in_rows driver.some k (omega arith) n in
      subst (λ r. pos 0 ≤ℤ entry r (u.columns + 2)) (sym (new_other k (omega arith) n))
      (stays_up s.k s.u s.v (entry (eliminated c by (row_at u.rows k)) (u.columns + 2)) (right_at u k) (entry by (u.columns + 2)) s.k_pos s.u_pos (s.entries (u.columns + 2)) by_right
      (is.feasible k h))

  basics_by : (k : ℕ) → k + 2 < length u.rows → (k ≡ i) ⊎ (k ≢ i) → basic_at (after_pivot i c u).basis k < u.columns
  basics_by k h (inl e) =
      let f = ap (basic_at (after_pivot i c u).basis) e in
      let g = basic_i in
      let l = driver.column in
      let p = is.plain_below in
      omega (arith, f, g, l, p)
  basics_by k h (inr n) = let f = basic_k k n in let g = is.basics k h in omega (arith, f, g)

  not_i : (k : ℕ) → u.plain ≤ basic_at (after_pivot i c u).basis k → k ≢ i
  not_i k l e =
      let f = ap (basic_at (after_pivot i c u).basis) e in
      let g = basic_i in
      let h = driver.column in
      absurd (omega (arith, f, g, h, l))

  zeros_by : (k : ℕ) → k + 2 < length u.rows → k ≢ i → u.plain ≤ basic_at u.basis k → right_at (after_pivot i c u) k ≡ pos 0
  zeros_by k h n l =
      let s = step i c (u.columns + 3) u.basis u.rows is.tableau.form in_rows driver.some k (omega arith) n in
      ap (λ r. entry r (u.columns + 2)) (new_other k (omega arith) n)
      ∙ new_zero s.k s.u s.v (entry (eliminated c by (row_at u.rows k)) (u.columns + 2)) (right_at u k) (entry by (u.columns + 2)) s.k_pos (s.entries (u.columns + 2)) (is.zeros k h l)
      (times_zero s.v _ by_right)

  idle_by : (k : ℕ) → k < i → k + 2 < length u.rows → k ≢ i → u.plain ≤ basic_at u.basis k → (j : ℕ) → j < u.plain → entry_at (after_pivot i c u) k j ≡ pos 0
  idle_by k lk h n l j lj =
      let s = step i c (u.columns + 3) u.basis u.rows is.tableau.form in_rows driver.some k (omega arith) n in
      let new = eliminated c by (row_at u.rows k) in
      let v = v_zero s.k s.u s.v (entry new c) (entry_at u k c) (entry by c) (turns c (row_at u.rows i) driver.some).positive_at (s.entries c) s.zero_at (is.idle k lk h l c driver.column) in
      ap (λ r. entry r j) (new_other k (omega arith) n) ∙ new_zero s.k s.u s.v (entry new j) (entry_at u k j) (entry by j) s.k_pos (s.entries j) (is.idle k lk h l j lj) (zero_times s.v _ v)

  pub driven_out : IsDriven equations t (i + 1) (after_pivot i c u)
  driven_out =
      let e = length-after i c u in
      record {
        tableau = IsTableauOf-pivoted equations (u.columns + 3) u.basis u.rows i c is.tableau in_rows driver.some;
        kin = record {
          rows = length-after i c u ∙ is.kin.rows;
          columns = is.kin.columns;
          plain = is.kin.plain;
          last = λ k h l. basic_k k (λ m. let p = is.kin.rows in absurd (omega (arith, p, m, l, in_i))) ∙ is.kin.last k h l;
        };
        feasible = λ k h. feasible_by k (omega (arith, e, h)) (cases_eq k i);
        basics = λ k h. basics_by k (omega (arith, e, h)) (cases_eq k i);
        plain_below = is.plain_below;
        zeros = λ k h l. let n = not_i k l in let b = basic_k k n in zeros_by k (omega (arith, e, h)) n (omega (arith, b, l));
        idle = λ k lk h l j lj. let n = not_i k l in let b = basic_k k n in idle_by k (omega (arith, lk, n)) (omega (arith, e, h)) n (omega (arith, b, l)) j lj;
      }

idle_at : (u : Table) (i k : ℕ) → ((k : ℕ) → k < i → k + 2 < length u.rows → u.plain ≤ basic_at u.basis k → (c : ℕ) → c < u.plain → entry_at u k c ≡ pos 0) → IsLeft u i → k < i + 1
    → (k ≡ i) ⊎ (k ≢ i) → k + 2 < length u.rows → u.plain ≤ basic_at u.basis k → (c : ℕ) → c < u.plain → entry_at u k c ≡ pos 0
idle_at u i k f (inl b) l (inl e) h s c lc = let g = ap (basic_at u.basis) e in absurd (omega (arith, g, b, s))
idle_at u i k f (inr b) l (inl e) h s c lc = ap (λ q. entry_at u q c) e ∙ b.1 c lc
idle_at u i k f b l (inr e) h s c lc = f k (omega (arith, e)) h s c lc

pub driven_left : (equations : List Row) (t : Table) (i : ℕ) (u : Table) → IsDriven equations t i u → IsLeft u i → IsDriven equations t (i + 1) u
driven_left equations t i u is left = record {
  tableau = is.tableau;
  kin = is.kin;
  feasible = is.feasible;
  basics = is.basics;
  plain_below = is.plain_below;
  zeros = is.zeros;
  idle = λ k l h s c lc. idle_at u i k is.idle left l (cases_eq k i) h s c lc;
}

pub driven : (equations : List Row) (s : Table) (limit : ℕ) (t : Table) (n : ℕ) (i : ℕ) (u : Table) (m : ℕ) → Drives limit t n i u m → i + 2 ≤ length s.rows → IsDriven equations s 0 t
    → IsDriven equations s i u
driven equations s limit t n i u m Begins h is = is
driven equations s limit t n i u m (Leaves k v l d left) h is = driven_left equations s k v (driven equations s limit t n k v l d (omega arith) is) left
driven equations s limit t n i u m (Drives_out k v l c d stands driver below formed) h is =
    let ih = driven equations s limit t n k v l d (omega arith) is in
    let e = ih.kin.rows in
    driven_out equations s k v ih (omega (arith, e, h)) stands c driver

-- at most one pivot for each row
pub drive_count : (limit : ℕ) (t : Table) (n : ℕ) (i : ℕ) (u : Table) (m : ℕ) → Drives limit t n i u m → m ≤ n + i
drive_count limit t n i u m Begins = omega arith
drive_count limit t n i u m (Leaves k v l d left) = let ih = drive_count limit t n k v l d in omega (arith, ih)
drive_count limit t n i u m (Drives_out k v l c d stands driver below formed) = let ih = drive_count limit t n k v l d in omega (arith, ih)

pub drive_rows : (limit : ℕ) (t : Table) (n : ℕ) (i : ℕ) (u : Table) (m : ℕ) → Drives limit t n i u m → length u.rows ≡ length t.rows
drive_rows limit t n i u m Begins = refl
drive_rows limit t n i u m (Leaves k v l d left) = drive_rows limit t n k v l d
drive_rows limit t n i u m (Drives_out k v l c d stands driver below formed) = length-after k c v ∙ drive_rows limit t n k v l d
