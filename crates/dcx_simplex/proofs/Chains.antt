-- A run of a phase as numbered tableaus, the last one first.
use Rattle.std.proofs.Common.{◌≡◌, ℕ, zero, suc, ◌+◌, ◌<◌, ◌≤◌, List, length, pos, ◌<ℤ◌, arith, refl, sym, ap, ◌∙◌, subst}
use Rattle.std.proofs.lemmas.Int.{ints}
use Rattle.std.proofs.lemmas.List.{get_or-set_other}
use Rattle.dcx_tab.specs.Rows.{Row, basic_at}
use Rattle.dcx_tab.specs.Table.{Table, after_pivot}
use Rattle.dcx_simplex.specs.Run.{Leads, IsNext, right_at}
use Rattle.dcx_simplex.specs.Run.Leads.{Here, Then}
use Rattle.dcx_simplex.proofs.Lengths.{length-after}
use Rattle.dcx_simplex.specs.Basis.{IsReady, IsNotAbove, lead_at}
use Rattle.dcx_simplex.proofs.Moves.{ready_next, value_falls}
use Rattle.dcx_simplex.proofs.Numbers.{cross_trans}

-- what a phase keeps
pub record IsKin (t u : Table) : Type 0 where
  pub rows : length u.rows ≡ length t.rows
  pub columns : u.columns ≡ t.columns
  pub plain : u.plain ≡ t.plain
  pub last : (k : ℕ) → k < length t.rows → length t.rows ≤ k + 2 → basic_at u.basis k ≡ basic_at t.basis k

pub kin_next : (cost bound : ℕ) (t u : Table) (r c : ℕ) → IsKin t u → IsNext cost bound u r c → IsKin t (after_pivot r c u)
kin_next cost bound t u r c k next = record {
  rows = length-after r c u ∙ k.rows;
  columns = k.columns;
  plain = k.plain;
  last = λ i h l. get_or-set_other u.basis r i c 0 (λ e. let p = k.rows in let q = next.leaves.may.row in absurd (omega arith)) ∙ k.last i h l;
}

abbrev pub before : {A : Type 0} → A → (ℕ → A) → ℕ → A
before x f zero = x
before x f (suc n) = f n

-- tableau 0 is the last one, and step i goes from tableau i + 1 to tableau i
pub record Chain (equations : List Row) (cost bound : ℕ) (t u : Table) (count : ℕ) : Type 0 where
  pub tables : ℕ → Table
  pub row : ℕ → ℕ
  pub column : ℕ → ℕ
  pub start : tables count ≡ t
  pub final : tables 0 ≡ u
  pub next : (i : ℕ) → i < count → IsNext cost bound (tables (suc i)) (row i) (column i)
  pub after : (i : ℕ) → i < count → tables i ≡ after_pivot (row i) (column i) (tables (suc i))
  pub ready : (i : ℕ) → i ≤ count → IsReady equations cost bound (tables i)
  pub kin : (i : ℕ) → i ≤ count → IsKin t (tables i)
  pub falls : (i j : ℕ) → i ≤ j → j ≤ count → IsNotAbove cost (tables i) (tables j)

pub lead_of : (equations : List Row) (cost bound : ℕ) (t : Table) → IsReady equations cost bound t → pos 0 <ℤ lead_at t cost
lead_of equations cost bound t ready = (ready.tableau.form.basic cost ready.cost_row).positive

pub not_above_self : (cost : ℕ) (t : Table) → IsNotAbove cost t t
not_above_self cost t = omega (arith, ints)

pub not_above_trans : (equations : List Row) (cost bound : ℕ) (t u v : Table) → IsReady equations cost bound t → IsReady equations cost bound u → IsReady equations cost bound v
    → IsNotAbove cost t u → IsNotAbove cost u v → IsNotAbove cost t v
not_above_trans equations cost bound t u v a b c h k =
    cross_trans (right_at t cost) (lead_at t cost) (right_at u cost) (lead_at u cost) (right_at v cost) (lead_at v cost) (lead_of equations cost bound t a) (lead_of equations cost bound u b)
    (lead_of equations cost bound v c) h k

pub chain_none : (equations : List Row) (cost bound : ℕ) (t : Table) → IsReady equations cost bound t → Chain equations cost bound t t 0
chain_none equations cost bound t ready = record {
  tables = λ i. t;
  row = λ i. 0;
  column = λ i. 0;
  start = refl;
  final = refl;
  next = λ i h. absurd (omega arith);
  after = λ i h. absurd (omega arith);
  ready = λ i h. ready;
  kin = λ i h. record { rows = refl; columns = refl; plain = refl; last = λ k l m. refl };
  falls = λ i j h l. not_above_self cost t;
}

module _ (equations : List Row) (cost bound : ℕ) (t v : Table) (count : ℕ) (ch : Chain equations cost bound t v count) (r c : ℕ) (next : IsNext cost bound v r c) where
  u : Table
  u = after_pivot r c v

  abbrev pub new : ℕ → Table
  new = before (after_pivot r c v) ch.tables

  ready_v : IsReady equations cost bound v
  ready_v = subst (IsReady equations cost bound) ch.final (ch.ready 0 (omega arith))

  next_by : (i : ℕ) → i < suc count → IsNext cost bound (new (suc i)) (before r ch.row i) (before c ch.column i)
  next_by zero h = subst (λ w. IsNext cost bound w r c) (sym ch.final) next
  next_by (suc i) h = ch.next i (omega arith)

  after_by : (i : ℕ) → i < suc count → new i ≡ after_pivot (before r ch.row i) (before c ch.column i) (new (suc i))
  after_by zero h = ap (after_pivot r c) (sym ch.final)
  after_by (suc i) h = ch.after i (omega arith)

  ready_by : (i : ℕ) → i ≤ suc count → IsReady equations cost bound (new i)
  ready_by zero h = ready_next equations cost bound v ready_v r c next
  ready_by (suc i) h = ch.ready i (omega arith)

  kin_by : (i : ℕ) → i ≤ suc count → IsKin t (new i)
  kin_by zero h = kin_next cost bound t v r c (subst (IsKin t) ch.final (ch.kin 0 (omega arith))) next
  kin_by (suc i) h = ch.kin i (omega arith)

  falls_by : (i j : ℕ) → i ≤ j → j ≤ suc count → IsNotAbove cost (new i) (new j)
  falls_by zero zero h l = not_above_self cost (after_pivot r c v)
  falls_by zero (suc j) h l =
      not_above_trans equations cost bound (after_pivot r c v) v (ch.tables j) (ready_by zero (omega arith)) ready_v (ch.ready j (omega arith)) (value_falls equations cost bound v ready_v r c next)
      (subst (λ w. IsNotAbove cost w (ch.tables j)) ch.final (ch.falls 0 j (omega arith) (omega arith)))
  falls_by (suc i) zero h l = absurd (omega arith)
  falls_by (suc i) (suc j) h l = ch.falls i j (omega arith) (omega arith)

  pub chain_more : Chain equations cost bound t (after_pivot r c v) (suc count)
  chain_more = record {
    tables = new;
    row = before r ch.row;
    column = before c ch.column;
    start = ch.start;
    final = refl;
    next = next_by;
    after = after_by;
    ready = ready_by;
    kin = kin_by;
    falls = falls_by;
  }

-- the run from n pivots done to m
pub record Found (equations : List Row) (cost bound : ℕ) (t u : Table) (n m : ℕ) : Type 0 where
  pub count : ℕ
  pub chain : Chain equations cost bound t u count
  pub counts : n + count ≡ m

pub chain_of : (equations : List Row) (cost bound limit : ℕ) (t : Table) (n : ℕ) (u : Table) (m : ℕ) → Leads cost bound limit t n u m → IsReady equations cost bound t
    → Found equations cost bound t u n m
chain_of equations cost bound limit t n u m Here ready = record { count = 0; chain = chain_none equations cost bound t ready; counts = omega arith }
chain_of equations cost bound limit t n u m (Then v k r c leads next below formed) ready =
    let f = chain_of equations cost bound limit t n v k leads ready in
    record { count = suc f.count; chain = chain_more equations cost bound t v f.count f.chain r c next; counts = let e = f.counts in omega arith }
