-- A warm run has one end, from which the optimal answer of its program is read.
use Rattle.std.proofs.Common.{◌≡◌, ◌≢◌, ℕ, ◌+◌, ◌-◌, ◌<◌, ◌≤◌, List, length, arith, sym, ap, ◌∙◌, subst, ◌⊎◌, inl, inr}
use Rattle.std.proofs.lemmas.Bool.{cases_eq}
use Rattle.dcx_tab.specs.Rows.{Row, basic_at}
use Rattle.dcx_tab.specs.declared.program.Program.{Program}
use Rattle.dcx_tab.specs.First.{first_tableau}
use Rattle.dcx_tab.specs.Table.{Table}
use Rattle.dcx_tab.proofs.Programs.{length_first}
use Rattle.dcx_simplex.specs.Run.{NoneEnters}
use Rattle.dcx_simplex.specs.Whole.{objective_row, phase_row}
use Rattle.dcx_simplex.specs.Start.{IsStart}
use Rattle.dcx_simplex.specs.Readable.{IsReadable}
use Rattle.dcx_simplex.specs.Reading.{IsReading}
use Rattle.dcx_simplex.proofs.Chains.{IsKin}
use Rattle.dcx_simplex.proofs.Starts.{starts}
use Rattle.dcx_simplex.proofs.EndFacts.{IsEnded, readable}
use Rattle.dcx_simplex.proofs.EndLaws.{kin_both}
use Rattle.dcx_simplex.proofs.Rights.{optimal_right}
use Rattle.dcx_lp_answer.specs.declared.answer.LpStatus.TheVariants as status
use Rattle.dcx_lp_answer.specs.declared.answer.LpAnswer.{LpAnswer}
use Rattle.dcx_lp_answer.specs.Right.{IsRight, IsRightAs}
use Rattle.dcx_warm.specs.Install.{IsSound, IsColumnList, Installs}
use Rattle.dcx_warm.specs.Dual.{Repairs, NeverRepairs}
use Rattle.dcx_warm.specs.Warm.{WarmEnds, NeverEnds, IsFirst, IsOptimalAt}
use Rattle.dcx_warm.proofs.Installing as install
use Rattle.dcx_warm.proofs.Repairing as repair
use Rattle.dcx_warm.proofs.Costs.{costs_kept, plain_kept}
use Rattle.dcx_warm.proofs.Listed.{all_plain}

pub start_of : (p : Program) → IsStart (first_tableau p).rows (first_tableau p)
start_of p = starts p.rows p.columns p.objective p.phase p.form

pub sound_first : (t : Table) → IsFirst t → IsSound t
sound_first t f = subst IsSound (sym f.1) (start_of f.0).tableau.form

-- ---- one end
same_repairs : (limit : ℕ) (u v w x : Table) (n m k l : ℕ) → IsSound w → Repairs limit u n w k → Repairs limit v m x l → w ≡ x → k ≡ l → (u ≡ v) × (n ≡ m)
same_repairs limit u v w x n m k l s a b e f =
    repair.once limit u n v m w k a s (subst (λ y. Repairs limit v m w y) (sym f) (subst (λ y. Repairs limit v m y l) (sym e) b))

pub one_end : (limit : ℕ) (columns : List ℕ) (t u v : Table) (n m : ℕ) → IsSound t → WarmEnds limit columns t u n → WarmEnds limit columns t v m → (u ≡ v) × (n ≡ m)
one_end limit columns t u v n m s a b =
    let e = install.once columns limit a.middle a.pivots b.middle b.pivots t 0 a.installs b.installs in
    same_repairs limit u v a.middle b.middle n m a.pivots b.pivots (install.sound columns limit a.middle a.pivots t 0 a.installs s) a.repairs b.repairs e.0 e.1

pub ends_once : (equations : List Row) (limit : ℕ) (columns : List ℕ) (t u v : Table) (n m : ℕ) → IsStart equations t → WarmEnds limit columns t u n → WarmEnds limit columns t v m → (u ≡ v) × (n ≡ m)
ends_once equations limit columns t u v n m start a b = one_end limit columns t u v n m start.tableau.form a b

-- ---- no end
pub costs_positive : (limit : ℕ) (columns : List ℕ) (t v : Table) (k : ℕ) → Installs columns limit v k t 0 → ¬ (NoneEnters (objective_row v) v) → NeverEnds limit columns t
costs_positive limit columns t v k i none u n w =
    none (subst (λ x. NoneEnters (objective_row x) x) (install.once columns limit w.middle w.pivots v k t 0 w.installs i).0 w.costs)

never_repaired_by : (limit : ℕ) (u v x : Table) (n k l : ℕ) → x ≡ v → l ≡ k → Repairs limit u n x l → Repairs limit u n v k
never_repaired_by limit u v x n k l e f r = subst (λ y. Repairs limit u n v y) f (subst (λ y. Repairs limit u n y l) e r)

pub never_repaired : (limit : ℕ) (columns : List ℕ) (t v : Table) (k : ℕ) → Installs columns limit v k t 0 → NeverRepairs limit v k → NeverEnds limit columns t
never_repaired limit columns t v k i none u n w =
    let e = install.once columns limit w.middle w.pivots v k t 0 w.installs i in
    none u n (never_repaired_by limit u v w.middle n k w.pivots e.0 e.1 w.repairs)

-- ---- the tableau at the end
pub ends_optimal : (p : Program) (limit : ℕ) (columns : List ℕ) (u : Table) (n : ℕ) → IsColumnList (first_tableau p).plain columns → WarmEnds limit columns (first_tableau p) u n → IsOptimalAt p u
ends_optimal p limit columns u n list w =
    let t = first_tableau p in
    let v = w.middle in
    let start = start_of p in
    let i = w.installs in
    let kin_v : IsKin t v = install.kin columns limit v w.pivots t 0 i in
    let sound_v : IsSound v = install.sound columns limit v w.pivots t 0 i start.tableau.form in
    let of_v = install.keeps columns limit v w.pivots t.rows t 0 i start.tableau in
    let plain_v = all_plain columns v (subst (λ k. IsColumnList k columns) (sym kin_v.plain) list) (w.count ∙ sym kin_v.rows) (install.all_basic columns limit v w.pivots t 0 i) in
    let kin : IsKin t u = kin_both t v u kin_v (repair.kin limit u n v w.pivots w.repairs) in
    let enough = start.enough in
    record {
      tableau = repair.keeps limit u n t.rows v w.pivots w.repairs of_v;
      rows = kin.rows;
      columns = kin.columns;
      plain = kin.plain;
      objective = ap (λ k. basic_at u.basis (k - 2)) kin.rows ∙ kin.last (objective_row t) (omega (arith, enough)) (omega (arith, enough)) ∙ start.objective ∙ sym kin.columns;
      phase = ap (λ k. basic_at u.basis (k - 1)) kin.rows ∙ kin.last (phase_row t) (omega (arith, enough)) (omega (arith, enough)) ∙ start.phase ∙ ap (λ k. k + 1) (sym kin.columns);
      basics = plain_kept limit u n v w.pivots w.repairs sound_v plain_v w.costs;
      feasible = repair.feasible limit u n v w.pivots w.repairs;
      costs = costs_kept limit u n v w.pivots w.repairs sound_v w.costs;
    }

-- ---- what is read there
module _ (p : Program) (u : Table) (at : IsOptimalAt p u) where
  last_by : (k : ℕ) → k < length (first_tableau p).rows → length (first_tableau p).rows ≤ k + 2 → (k ≡ objective_row u) ⊎ (k ≢ objective_row u)
      → basic_at u.basis k ≡ basic_at (first_tableau p).basis k
  last_by k h l (inl e) =
      ap (basic_at u.basis) e ∙ at.objective ∙ at.columns ∙ sym (ap (basic_at (first_tableau p).basis) (e ∙ ap (λ n. n - 2) at.rows) ∙ (start_of p).objective)
  last_by k h l (inr n) =
      let r = at.rows in
      let e : k ≡ phase_row u = omega (arith, h, l, n, r) in
      ap (basic_at u.basis) e ∙ at.phase ∙ ap (λ n. n + 1) at.columns ∙ sym (ap (basic_at (first_tableau p).basis) (e ∙ ap (λ n. n - 1) r) ∙ (start_of p).phase)

  pub ended : IsEnded (first_tableau p).rows (first_tableau p) u
  ended = record {
    tableau = at.tableau;
    feasible = at.feasible;
    kin = record { rows = at.rows; columns = at.columns; plain = at.plain; last = λ k h l. last_by k h l (cases_eq k (objective_row u)) };
    basics = λ i h. let a = at.basics i h in let b = at.plain in let c = at.columns in let d = (start_of p).plain_below in omega (arith, a, b, c, d);
  }

  pub is_readable : IsReadable u
  is_readable = readable (first_tableau p).rows (first_tableau p) (start_of p) u ended

  pub rows_are : length u.rows ≡ length p.rows + 2
  rows_are = at.rows ∙ length_first p.rows p.columns p.objective p.phase p.form

  pub columns_are : u.columns ≡ length p.columns
  columns_are = at.columns

  no_artificial : (k : ℕ) → k + 2 < length u.rows → u.plain ≤ basic_at u.basis k → ⊥
  no_artificial k h l = let b = at.basics k h in absurd (omega (arith, b, l))

  pub is_right : (a : LpAnswer) → IsReading p.rows p.columns u status.Optimal a → IsRight p a
  is_right a reading = subst (λ s. IsRightAs s p a) (sym reading.status) (optimal_right p u ended a reading at.costs (λ k h l. absurd (no_artificial k h l)))
