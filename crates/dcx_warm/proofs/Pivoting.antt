-- What one pivot leaves alone.
use Rattle.std.proofs.Common.{◌≡◌, ◌≢◌, ℕ, ◌+◌, ◌<◌, List, length, pos, arith, refl, sym, ap, ◌∙◌, ◌⊎◌, inl, inr}
use Rattle.std.proofs.lemmas.Int.{ints}
use Rattle.std.proofs.lemmas.Bool.{cases_eq}
use Rattle.std.proofs.lemmas.List.{get_or-set_same, get_or-set_other}
use Rattle.dcx_tab.specs.Rows.{Row, basic_at}
use Rattle.dcx_tab.specs.Table.{Table, entry_at, after_pivot, IsOf}
use Rattle.dcx_tab.proofs.Pivots.{IsTableau-pivoted, IsTableauOf-pivoted}
use Rattle.dcx_simplex.specs.Basis.{IsBasic}
use Rattle.dcx_simplex.proofs.Lengths.{length-after}
use Rattle.dcx_simplex.proofs.Chains.{IsKin}
use Rattle.dcx_warm.specs.Install.{IsSound}

-- a pivot that can be done
pub record IsPivot (t : Table) (r c : ℕ) : Type 0 where
  pub row : r + 2 < length t.rows
  pub some : entry_at t r c ≢ pos 0

pub sound_next : (t : Table) (r c : ℕ) → IsSound t → IsPivot t r c → IsSound (after_pivot r c t)
sound_next t r c s p = IsTableau-pivoted r c (t.columns + 3) t.basis t.rows s (let h = p.row in omega arith) p.some

pub of_next : (equations : List Row) (t : Table) (r c : ℕ) → IsOf equations t → IsPivot t r c → IsOf equations (after_pivot r c t)
of_next equations t r c s p = IsTableauOf-pivoted equations (t.columns + 3) t.basis t.rows r c s (let h = p.row in omega arith) p.some

pub kin_same : (t : Table) → IsKin t t
kin_same t = record { rows = refl; columns = refl; plain = refl; last = λ k h l. refl }

pub kin_step : (t u : Table) (r c : ℕ) → IsPivot t r c → IsKin (after_pivot r c t) u → IsKin t u
kin_step t u r c p k = record {
  rows = k.rows ∙ length-after r c t;
  columns = k.columns;
  plain = k.plain;
  last = λ i h l. k.last i (let e = length-after r c t in omega (arith, e, h)) (let e = length-after r c t in omega (arith, e, l))
      ∙ get_or-set_other t.basis r i c 0 (λ e. let b = p.row in absurd (omega (arith, b, l, e)));
}

-- ---- the basis
pub basic_same : (t : Table) (r c : ℕ) → IsSound t → IsPivot t r c → basic_at (after_pivot r c t).basis r ≡ c
basic_same t r c s p = get_or-set_same t.basis r c 0 (let e = s.size in let h = p.row in omega (arith, e, h))

pub basic_other : (t : Table) (r c k : ℕ) → k ≢ r → basic_at (after_pivot r c t).basis k ≡ basic_at t.basis k
basic_other t r c k n = get_or-set_other t.basis r k c 0 n

pub now_basic : (t : Table) (r c : ℕ) → IsSound t → IsPivot t r c → IsBasic (after_pivot r c t) c
now_basic t r c s p = (r, (let e = length-after r c t in let h = p.row in omega (arith, e, h)), basic_same t r c s p)

still_by : (t : Table) (r c j i : ℕ) → i + 2 < length t.rows → basic_at t.basis i ≡ j → basic_at t.basis r ≢ j → (i ≡ r) ⊎ (i ≢ r) → IsBasic (after_pivot r c t) j
still_by t r c j i h e n (inl m) = absurd (n (ap (basic_at t.basis) (sym m) ∙ e))
still_by t r c j i h e n (inr m) = (i, (let l = length-after r c t in omega (arith, l, h)), basic_other t r c i m ∙ e)

-- a basic column other than that of the pivot's row stays basic
pub still_basic : (t : Table) (r c j : ℕ) → basic_at t.basis r ≢ j → IsBasic t j → IsBasic (after_pivot r c t) j
still_basic t r c j n b = still_by t r c j b.0 b.1 b.2 n (cases_eq b.0 r)

-- two rows with one basic column are one
apart_by : (t : Table) → IsSound t → (i k : ℕ) → i < length t.rows → k < length t.rows → basic_at t.basis i ≡ basic_at t.basis k → (i ≡ k) ⊎ (i ≢ k) → i ≡ k
apart_by t s i k h l e (inl q) = q
apart_by t s i k h l e (inr n) =
    let size = s.size in
    let z = (s.basic i h).zeros k (omega (arith, size, l)) (λ q. n (sym q)) in
    let p = (s.basic i h).positive in
    let f : entry_at t i (basic_at t.basis i) ≡ pos 0 = ap (entry_at t i) e ∙ z in
    absurd (omega (arith, ints, p, f))

pub apart : (t : Table) → IsSound t → (i k : ℕ) → i < length t.rows → k < length t.rows → basic_at t.basis i ≡ basic_at t.basis k → i ≡ k
apart t s i k h l e = apart_by t s i k h l e (cases_eq i k)
