-- The laws of a phase.
use Rattle.std.proofs.Common.{◌≡◌, ◌≢◌, ℕ, zero, suc, ◌+◌, ◌^◌, ◌<◌, ◌≤◌, List, length, ℤ, pos, ◌*ℤ◌, ◌<ℤ◌, arith, sym, ap, ◌∙◌, subst}
use Rattle.std.proofs.lemmas.Int.{ints, by_lt_z}
use Rattle.dcx_tab.specs.Rows.{Row, basic_at}
use Rattle.dcx_tab.specs.Table.{Table, after_pivot}
use Rattle.dcx_simplex.specs.Run.{Leads, IsNext, right_at}
use Rattle.dcx_simplex.specs.Basis.{IsReady, HasSameColumns, HasSameValue, IsNotAbove, lead_at}
use Rattle.dcx_simplex.specs.Run.Leads.{Here, Then}
use Rattle.dcx_simplex.proofs.Moves.{zeros_next, value_strict}
use Rattle.dcx_simplex.proofs.Chains.{Chain, chain_of, IsKin}
use Rattle.dcx_simplex.proofs.Cycle.{no_cycle}
use Rattle.dcx_simplex.proofs.Count.{shorter}

pub stays_ready : (equations : List Row) (cost bound limit : ℕ) (t : Table) (n : ℕ) (u : Table) (m : ℕ) → IsReady equations cost bound t → Leads cost bound limit t n u m
    → IsReady equations cost bound u
stays_ready equations cost bound limit t n u m ready leads =
    let f = chain_of equations cost bound limit t n u m leads ready in
    subst (IsReady equations cost bound) f.chain.final (f.chain.ready 0 (omega arith))

pub stays_kin : (equations : List Row) (cost bound limit : ℕ) (t : Table) (n : ℕ) (u : Table) (m : ℕ) → IsReady equations cost bound t → Leads cost bound limit t n u m → IsKin t u
stays_kin equations cost bound limit t n u m ready leads =
    let f = chain_of equations cost bound limit t n u m leads ready in
    subst (IsKin t) f.chain.final (f.chain.kin 0 (omega arith))

pub never_rises : (equations : List Row) (cost bound limit : ℕ) (t : Table) (n : ℕ) (u : Table) (m : ℕ) → IsReady equations cost bound t → Leads cost bound limit t n u m → IsNotAbove cost u t
never_rises equations cost bound limit t n u m ready leads =
    let f = chain_of equations cost bound limit t n u m leads ready in
    subst (λ w. IsNotAbove cost w t) f.chain.final (subst (IsNotAbove cost (f.chain.tables 0)) f.chain.start (f.chain.falls 0 f.count (omega arith) (omega arith)))

not_strict : (a b c d : ℤ) → (a *ℤ b) <ℤ (c *ℤ d) → a *ℤ b ≡ c *ℤ d → ⊥
not_strict a b c d h e = absurd (omega (arith, ints, h, e))

pub same_value : (equations : List Row) (cost bound : ℕ) (t : Table) (r c : ℕ) → IsReady equations cost bound t → IsNext cost bound t r c → HasSameValue cost (after_pivot r c t) t
    → right_at t r ≡ pos 0
same_value equations cost bound t r c ready next same =
    let f = ready.feasible r next.leaves.may.row in
    by_lt_z (pos 0) (right_at t r)
    (λ p. absurd (not_strict (right_at (after_pivot r c t) cost) (lead_at t cost) (right_at t cost) (lead_at (after_pivot r c t) cost) (value_strict equations cost bound t ready r c next p) same))
    (λ l. omega (arith, ints, f, l))

no_cycle_of : (equations : List Row) (cost bound : ℕ) (t u : Table) (count : ℕ) → 0 < count → Chain equations cost bound t u count → HasSameColumns t u → ⊥
no_cycle_of equations cost bound t u zero h ch same = absurd (omega arith)
no_cycle_of equations cost bound t u (suc n) h ch same = no_cycle equations cost bound t u n ch same

pub never_repeats : (equations : List Row) (cost bound limit : ℕ) (t : Table) (n : ℕ) (u : Table) (m : ℕ) → IsReady equations cost bound t → Leads cost bound limit t n u m → n < m
    → ¬ (HasSameColumns t u)
never_repeats equations cost bound limit t n u m ready leads some same =
    let f = chain_of equations cost bound limit t n u m leads ready in
    no_cycle_of equations cost bound t u f.count (let e = f.counts in omega arith) f.chain same

columns_of_list : (t u : Table) → length u.rows ≡ length t.rows → t.basis ≡ u.basis → HasSameColumns t u
columns_of_list t u e f j =
    (λ b. (b.0, (let h = b.1 in omega (arith, e, h)), ap (λ l. basic_at l b.0) (sym f) ∙ b.2), λ b. (b.0, (let h = b.1 in omega (arith, e, h)), ap (λ l. basic_at l b.0) f ∙ b.2))

pub never_repeats_list : (equations : List Row) (cost bound limit : ℕ) (t : Table) (n : ℕ) (u : Table) (m : ℕ) → IsReady equations cost bound t → Leads cost bound limit t n u m → n < m
    → t.basis ≢ u.basis
never_repeats_list equations cost bound limit t n u m ready leads some same =
    let k = stays_kin equations cost bound limit t n u m ready leads in
    never_repeats equations cost bound limit t n u m ready leads some (columns_of_list t u k.rows same)

pub few_pivots : (equations : List Row) (cost bound limit : ℕ) (t : Table) (n : ℕ) (u : Table) (m : ℕ) → IsReady equations cost bound t → Leads cost bound limit t n u m → m < n + 2 ^ t.columns
few_pivots equations cost bound limit t n u m ready leads =
    let f = chain_of equations cost bound limit t n u m leads ready in
    let s = shorter equations cost bound t u f.count f.chain in
    let e = f.counts in
    omega (arith, s, e)

-- along a phase rows that never leave keep right side 0
pub zeros_stay : (equations : List Row) (cost bound limit : ℕ) (t : Table) (n : ℕ) (u : Table) (m : ℕ) → IsReady equations cost bound t → Leads cost bound limit t n u m
    → ((k : ℕ) → k + 2 < length t.rows → bound ≤ basic_at t.basis k → right_at t k ≡ pos 0) → (k : ℕ) → k + 2 < length u.rows → bound ≤ basic_at u.basis k → right_at u k ≡ pos 0
zeros_stay equations cost bound limit t n u m ready Here z = z
zeros_stay equations cost bound limit t n u m ready (Then v k r c leads next below formed) z =
    zeros_next equations cost bound v (stays_ready equations cost bound limit t n v k ready leads) r c next (zeros_stay equations cost bound limit t n v k ready leads z)
