-- The dual simplex has one way and one end, and no cost becomes positive.
use Rattle.std.proofs.Common.{◌≡◌, ◌≢◌, ℕ, ◌+◌, ◌<◌, ◌≤◌, List, length, ℤ, pos, ◌<ℤ◌, ◌≤ℤ◌, arith, refl, subst, ◌⊎◌, inl, inr}
use Rattle.std.proofs.lemmas.Int.{ints, by_lt_z}
use Rattle.dcx_tab.specs.Rows.{Row}
use Rattle.dcx_tab.specs.Table.{Table, entry_at, after_pivot, IsOf}
use Rattle.dcx_simplex.specs.Run.{right_at}
use Rattle.dcx_simplex.specs.Basis.{IsFeasible}
use Rattle.dcx_simplex.proofs.Chains.{IsKin}
use Rattle.dcx_warm.specs.Install.{IsSound, IsAllowed}
use Rattle.dcx_warm.specs.Dual.{IsShort, IsLeaving, MayEnter, IsEntering, Repairs, NeverRepairs, RepairsAlike}
use Rattle.dcx_warm.specs.Dual.Repairs.{Repaired, Turns}
use Rattle.dcx_warm.proofs.Pivoting.{IsPivot, sound_next, of_next, kin_same, kin_step, apart}

negative_some : (z : ℤ) → z <ℤ pos 0 → z ≢ pos 0
negative_some z h e = absurd (omega (arith, ints, h, e))

pub is_pivot : (t : Table) (r c : ℕ) → IsLeaving t r → IsEntering t r c → IsPivot t r c
is_pivot t r c x y = record { row = x.short.row; some = negative_some (entry_at t r c) y.may.negative }

-- ---- one pivot
leaving_one : (t : Table) → IsSound t → (r s : ℕ) → IsLeaving t r → IsLeaving t s → r ≡ s
leaving_one t h r s x y =
    let a = x.least s y.short in
    let b = y.least r x.short in
    let p = x.short.row in
    let q = y.short.row in
    apart t h r s (omega (arith, p)) (omega (arith, q)) (omega (arith, a, b))

order_one : (a b c d : ℕ) → (a < b) ⊎ ((a ≡ b) × (c ≤ d)) → (b < a) ⊎ ((b ≡ a) × (d ≤ c)) → c ≡ d
order_one a b c d (inl h) (inl k) = absurd (omega (arith, h, k))
order_one a b c d (inl h) (inr k) = let e = k.0 in absurd (omega (arith, h, e))
order_one a b c d (inr h) (inl k) = let e = h.0 in absurd (omega (arith, k, e))
order_one a b c d (inr h) (inr k) = let p = h.1 in let q = k.1 in omega (arith, p, q)

entering_one : (t : Table) (r c d : ℕ) → IsEntering t r c → IsEntering t r d → c ≡ d
entering_one t r c d x y = order_one _ _ c d (x.first d y.may) (y.first c x.may)

not_feasible : (t : Table) (r : ℕ) → IsShort t r → IsFeasible t → ⊥
not_feasible t r x f = let a = x.negative in let b = f r x.row in absurd (omega (arith, ints, a, b))

module _ (limit : ℕ) (u : Table) (m : ℕ) where
  -- what follows at a tableau where the rule takes a pivot
  pub next : (t : Table) (n : ℕ) → Repairs limit u m t n → IsSound t → (r c : ℕ) → IsLeaving t r → IsEntering t r c → IsAllowed limit t n r c × Repairs limit u m (after_pivot r c t) (n + 1)
  next t n (Repaired f) h r c x y = absurd (not_feasible t r x.short f)
  next t n (Turns t' n' s d x' y' z rest) h r c x y =
      let e = leaving_one t' h s r x' x in
      let f = entering_one t' r d c (subst (λ k. IsEntering t' k d) e y') y in
      subst (λ k. IsAllowed limit t' n' r k × Repairs limit u m (after_pivot r k t') (n' + 1)) f
      (subst (λ k. IsAllowed limit t' n' k d × Repairs limit u m (after_pivot k d t') (n' + 1)) e (z, rest))

  -- no column may enter
  pub stuck : (t : Table) (n : ℕ) → Repairs limit u m t n → IsSound t → (r : ℕ) → IsLeaving t r → ((c : ℕ) → ¬ (MayEnter t r c)) → ⊥
  stuck t n (Repaired f) h r x none = not_feasible t r x.short f
  stuck t n (Turns t' n' s d x' y' z rest) h r x none = none d (subst (λ k. MayEnter t' k d) (leaving_one t' h s r x' x) y'.may)

  pub done : (t : Table) (n : ℕ) → Repairs limit u m t n → IsFeasible t → (t ≡ u) × (n ≡ m)
  done t n (Repaired f) all = (refl, refl)
  done t n (Turns t' n' s d x' y' z rest) all = absurd (not_feasible t' s x'.short all)

  -- ---- what is kept
  pub feasible : (t : Table) (n : ℕ) → Repairs limit u m t n → IsFeasible u
  feasible t n (Repaired f) = f
  feasible t n (Turns t' n' s d x' y' z rest) = feasible (after_pivot s d t') (n' + 1) rest

  pub keeps : (equations : List Row) (t : Table) (n : ℕ) → Repairs limit u m t n → IsOf equations t → IsOf equations u
  keeps equations t n (Repaired f) h = h
  keeps equations t n (Turns t' n' s d x' y' z rest) h = keeps equations (after_pivot s d t') (n' + 1) rest (of_next equations t' s d h (is_pivot t' s d x' y'))

  pub kin : (t : Table) (n : ℕ) → Repairs limit u m t n → IsKin t u
  kin t n (Repaired f) = kin_same u
  kin t n (Turns t' n' s d x' y' z rest) = kin_step t' u s d (is_pivot t' s d x' y') (kin (after_pivot s d t') (n' + 1) rest)

pub once : (limit : ℕ) (u : Table) (m : ℕ) (v : Table) (k : ℕ) (t : Table) (n : ℕ) → Repairs limit u m t n → IsSound t → Repairs limit v k t n → (u ≡ v) × (m ≡ k)
once limit u m v k t n (Repaired f) h y = done limit v k u m y f
once limit u m v k t n (Turns t' n' s d x' y' z rest) h y = once limit u m v k (after_pivot s d t') (n' + 1) rest (sound_next t' s d h (is_pivot t' s d x' y')) (next limit v k t' n' y h s d x' y').1

-- ---- along the loop
pub alike_next : (limit : ℕ) (t : Table) (n : ℕ) (v : Table) (k r c : ℕ) → RepairsAlike limit t n v k → IsSound v → IsLeaving v r → IsEntering v r c → IsAllowed limit v k r c
    → RepairsAlike limit t n (after_pivot r c v) (k + 1)
alike_next limit t n v k r c a h x y z = record {
  onward = λ u m i. a.onward u m (Turns v k r c x y z i);
  back = λ u m i. (next limit u m v k (a.back u m i) h r c x y).1;
}

pub refused : (limit : ℕ) (t : Table) (n : ℕ) (v : Table) (k r c : ℕ) → RepairsAlike limit t n v k → IsSound v → IsLeaving v r → IsEntering v r c → ¬ (IsAllowed limit v k r c) → NeverRepairs limit t n
refused limit t n v k r c a h x y f u m i = f (next limit u m v k (a.back u m i) h r c x y).0

pub none_enters : (limit : ℕ) (t : Table) (n : ℕ) (v : Table) (k r : ℕ) → RepairsAlike limit t n v k → IsSound v → IsLeaving v r → ((c : ℕ) → ¬ (MayEnter v r c)) → NeverRepairs limit t n
none_enters limit t n v k r a h x none u m i = stuck limit u m v k (a.back u m i) h r x none

high_by : (t : Table) (i : ℕ) → i + 2 < length t.rows → ¬ (IsShort t i) → pos 0 ≤ℤ right_at t i
high_by t i h none = by_lt_z (right_at t i) (pos 0) (λ l. absurd (none (record { row = h; negative = l }))) (λ l. l)

pub all_high : (t : Table) → ((i : ℕ) → ¬ (IsShort t i)) → IsFeasible t
all_high t none i h = high_by t i h (none i)
