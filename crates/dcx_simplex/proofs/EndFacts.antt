-- What is known of the tableau at which a run ends.
use Rattle.std.proofs.Common.{◌≡◌, ◌≢◌, ℕ, ◌+◌, ◌-◌, ◌<◌, ◌≤◌, List, length, pos, ◌<ℤ◌, arith, sym, ap, ◌∙◌, ◌⊎◌, inl, inr}
use Rattle.std.proofs.lemmas.Int.{ints}
use Rattle.std.proofs.lemmas.Bool.{cases_eq}
use Rattle.dcx_tab.specs.Rows.{Row, basic_at}
use Rattle.dcx_tab.specs.Table.{Table, entry_at, IsOf}
use Rattle.dcx_simplex.specs.Whole.{objective_row, phase_row, InFirst, InSecond}
use Rattle.dcx_simplex.specs.declared.phase.PhaseEnd.{PhaseEnd}
use Rattle.dcx_simplex.specs.Basis.{IsBasic, IsFeasible}
use Rattle.dcx_simplex.specs.Start.{IsStart}
use Rattle.dcx_simplex.specs.Readable.{IsReadable}
use Rattle.dcx_simplex.proofs.Chains.{IsKin}
use Rattle.dcx_simplex.proofs.PhaseLaws.{stays_ready}
use Rattle.dcx_simplex.proofs.Limits.{ready_first, kin_first}
use Rattle.dcx_simplex.proofs.EndLaws.{second}

-- the tableau of its basis, feasible, with the last rows of the first one
pub record IsEnded (equations : List Row) (t u : Table) : Type 0 where
  pub tableau : IsOf equations u
  pub feasible : IsFeasible u
  pub kin : IsKin t u
  pub basics : (i : ℕ) → i + 2 < length u.rows → basic_at u.basis i < u.columns

module _ (equations : List Row) (t : Table) (start : IsStart equations t) where
  pub ended_first : (limit : ℕ) (u : Table) (n : ℕ) (e : PhaseEnd) → InFirst limit t u n e → IsEnded equations t u
  ended_first limit u n e f =
      let r = stays_ready equations (phase_row t) t.columns limit t 0 u n (ready_first equations t start) f.1 in
      record { tableau = r.tableau; feasible = r.feasible; kin = kin_first equations t start limit n u e f; basics = r.basics }

  pub ended_second : (limit : ℕ) (u : Table) (n : ℕ) (e : PhaseEnd) → InSecond limit t u n e → IsEnded equations t u
  ended_second limit u n e s =
      let q = second equations t start limit u n e s in
      record { tableau = q.tableau; feasible = q.feasible; kin = q.kin; basics = q.ready.basics }

  module _ (u : Table) (end : IsEnded equations t u) where
    apart_by : (i k : ℕ) → i + 2 < length u.rows → k + 2 < length u.rows → basic_at u.basis i ≡ basic_at u.basis k → (i ≡ k) ⊎ (i ≢ k) → i ≡ k
    apart_by i k h l e (inl s) = s
    apart_by i k h l e (inr n) =
        let size = end.tableau.form.size in
        let z = (end.tableau.form.basic i (omega arith)).zeros k (omega (arith, size, l)) (λ q. n (sym q)) in
        let p = (end.tableau.form.basic i (omega arith)).positive in
        let f : entry_at u i (basic_at u.basis i) ≡ pos 0 = ap (entry_at u i) e ∙ z in
        absurd (omega (arith, ints, p, f))

    pub readable : IsReadable u
    readable =
        let e = start.enough in
        let r = end.kin.rows in
        record {
          positive = λ i h. (end.tableau.form.basic i (omega arith)).positive;
          basics = end.basics;
          apart = λ i k h l q. apart_by i k h l q (cases_eq i k);
          objective = ap (λ n. basic_at u.basis (n - 2)) r ∙ end.kin.last (objective_row t) (omega (arith, e)) (omega (arith, e)) ∙ start.objective ∙ sym end.kin.columns;
          phase = ap (λ n. basic_at u.basis (n - 1)) r ∙ end.kin.last (phase_row t) (omega (arith, e)) (omega (arith, e)) ∙ start.phase ∙ ap (λ n. n + 1) (sym end.kin.columns);
          lead = (end.tableau.form.basic (objective_row u) (omega (arith, e, r))).positive;
          phase_lead = (end.tableau.form.basic (phase_row u) (omega (arith, e, r))).positive;
        }

    -- a column with a positive cost isn't basic
    pub not_basic_of : (cost c : ℕ) → cost < length u.rows → length u.rows ≤ cost + 2 → pos 0 <ℤ entry_at u cost c → ¬ (IsBasic u c)
    not_basic_of cost c h l p b =
        let size = end.tableau.form.size in
        let g = b.1 in
        let z = (end.tableau.form.basic cost h).zeros b.0 (omega (arith, size, g)) (λ q. absurd (omega (arith, q, g, l))) in
        let f : entry_at u cost c ≡ pos 0 = ap (entry_at u cost) (sym b.2) ∙ z in
        absurd (omega (arith, ints, p, f))
