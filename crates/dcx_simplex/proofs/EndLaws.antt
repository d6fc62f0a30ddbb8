-- The laws of the ends of a run.
use Rattle.std.proofs.Common.{◌≡◌, ℕ, ◌+◌, ◌-◌, ◌<◌, ◌≤◌, List, length, pos, ◌*ℤ◌, neg_ℤ, ◌<ℤ◌, ◌≤ℤ◌, arith, sym, ap, ◌∙◌, subst, inl, inr}
use Rattle.dcx_tab.specs.Rows.{Row, Assignment, basic_at, entry, Solves}
use Rattle.dcx_tab.specs.Table.{Table, IsOf}
use Rattle.dcx_simplex.specs.Run.{right_at, NoneLeaves, IsEntering, NoneEnters}
use Rattle.dcx_simplex.specs.Whole.{objective_row, phase_row, InFirst, InSecond, RunEnds}
use Rattle.dcx_simplex.specs.declared.phase.PhaseEnd.{PhaseEnd}
use Rattle.dcx_simplex.specs.declared.phase.PhaseEnd.TheVariants as phase
use Rattle.dcx_simplex.specs.declared.run.LpEnd.{LpEnd}
use Rattle.dcx_simplex.specs.declared.run.LpEnd.TheVariants as lp
use Rattle.dcx_simplex.specs.Drive.{Drives}
use Rattle.dcx_simplex.proofs.Driving.{driven, drive_rows}
use Rattle.dcx_simplex.specs.Basis.{IsReady, IsFeasible, lead_at}
use Rattle.dcx_simplex.specs.Start.{IsStart}
use Rattle.dcx_simplex.specs.Meaning.{IsPoint, IsRay}
use Rattle.dcx_simplex.proofs.Chains.{IsKin}
use Rattle.dcx_simplex.proofs.PhaseLaws.{stays_ready, stays_kin, zeros_stay}
use Rattle.dcx_simplex.proofs.Solutions.{basic_solution, ray}
use Rattle.dcx_simplex.proofs.Limits.{ready_first, driven_first, kin_first, sum_row_after, begun}
use Rattle.dcx_simplex.proofs.Right.{bounded, least, no_point}

-- what phases keep one after the other
pub kin_both : (t u v : Table) → IsKin t u → IsKin u v → IsKin t v
kin_both t u v a b = record {
  rows = b.rows ∙ a.rows;
  columns = b.columns ∙ a.columns;
  plain = b.plain ∙ a.plain;
  last = λ k h l. let e = a.rows in b.last k (omega (arith, h, e)) (omega (arith, l, e)) ∙ a.last k h l;
}

module _ (equations : List Row) (t : Table) (start : IsStart equations t) where
  n : ℕ
  n = length t.rows - 2

  next_row : (length t.rows - 2) + 1 ≡ phase_row t
  next_row = let e = start.enough in omega (arith, e)

  module _ (u : Table) (k : IsKin t u) where
    rows_u : length u.rows ≡ (length t.rows - 2) + 2
    rows_u = let e = start.enough in let f = k.rows in omega (arith, e, f)

    objective_u : basic_at u.basis (length t.rows - 2) ≡ u.columns
    objective_u = let e = start.enough in k.last (length t.rows - 2) (omega (arith, e)) (omega (arith, e)) ∙ start.objective ∙ sym k.columns

    phase_u : basic_at u.basis ((length t.rows - 2) + 1) ≡ u.columns + 1
    phase_u = let e = start.enough in ap (basic_at u.basis) next_row ∙ k.last (phase_row t) (omega (arith, e)) (omega (arith, e)) ∙ start.phase ∙ ap (λ c. c + 1) (sym k.columns)

    point_u : (y : Assignment) → IsPoint t y → IsPoint u y
    point_u y p = record {
      plain = λ j h. let e = k.plain in p.plain j (omega (arith, e, h));
      artificial = λ j h l. let e = k.plain in let f = k.columns in p.artificial j (omega (arith, e, h)) (omega (arith, f, l));
      denominator = subst (λ c. entry y (c + 2) <ℤ pos 0) (sym k.columns) p.denominator;
    }

  first_bounded : (limit : ℕ) (u : Table) (m c : ℕ) → InFirst limit t u m (phase.Unbounded c) → ⊥
  first_bounded limit u m c f =
      let r = stays_ready equations (phase_row t) t.columns limit t 0 u m (ready_first equations t start) f.1 in
      let k = kin_first equations t start limit m u (phase.Unbounded c) f in
      bounded equations u r.tableau (length t.rows - 2) (rows_u u k) r.basics (objective_u u k) (phase_u u k) start.sum.0 (sum_row_after equations t start u start.sum.0 k start.sum.1) c
      (subst (λ i. IsEntering i u c) (sym next_row) f.2.0) (subst (λ b. NoneLeaves b u c) (sym k.columns) f.2.1)

  infeasible : (limit : ℕ) (u : Table) (m : ℕ) → InFirst limit t u m phase.Done → pos 0 <ℤ right_at u (phase_row t) → (y : Assignment) → Solves equations y → IsPoint t y → ⊥
  infeasible limit u m f high y s p =
      let r = stays_ready equations (phase_row t) t.columns limit t 0 u m (ready_first equations t start) f.1 in
      let k = kin_first equations t start limit m u phase.Done f in
      no_point equations u r.tableau (length t.rows - 2) (rows_u u k) (objective_u u k) (phase_u u k) y s (point_u u k y p) start.sum.0 (sum_row_after equations t start u start.sum.0 k start.sum.1)
      (subst (λ i. NoneEnters i u) (sym next_row) f.2) (subst (λ i. pos 0 <ℤ right_at u i) (sym next_row) high)

  pub record Second (u : Table) : Type 0 where
    pub tableau : IsOf equations u
    pub feasible : IsFeasible u
    pub kin : IsKin t u
    pub ready : IsReady equations (objective_row u) u.plain u
    pub zeros : (k : ℕ) → k + 2 < length u.rows → u.plain ≤ basic_at u.basis k → right_at u k ≡ pos 0

  pub second : (limit : ℕ) (u : Table) (m : ℕ) (e : PhaseEnd) → InSecond limit t u m e → Second u
  second limit u m e s =
      let b = begun equations t start limit s.1 s.0 s.2 in
      let r = stays_ready equations (objective_row s.0) s.0.plain limit s.0 s.1 u m b.ready s.3 in
      let k = stays_kin equations (objective_row s.0) s.0.plain limit s.0 s.1 u m b.ready s.3 in
      let e : objective_row s.0 ≡ objective_row u = ap (λ l. l - 2) (sym k.rows) in
      record {
        tableau = r.tableau;
        feasible = r.feasible;
        kin = kin_both t s.0 u b.kin k;
        ready = subst (λ i. IsReady equations i u.plain u) e (subst (λ b. IsReady equations (objective_row s.0) b u) (sym k.plain) r);
        zeros = subst (λ b. (i : ℕ) → i + 2 < length u.rows → b ≤ basic_at u.basis i → right_at u i ≡ pos 0) (sym k.plain)
            (zeros_stay equations (objective_row s.0) s.0.plain limit s.0 s.1 u m b.ready s.3 b.zeros);
      }

  optimal : (limit : ℕ) (u : Table) (m : ℕ) → InSecond limit t u m phase.Done → (y : Assignment) → Solves equations y → IsPoint t y
      → (right_at u (objective_row t) *ℤ neg_ℤ (entry y (t.columns + 2))) ≤ℤ (lead_at u (objective_row t) *ℤ entry y t.columns)
  optimal limit u m s y h p =
      let q = second limit u m phase.Done s in
      let k = q.kin in
      let b = begun equations t start limit s.1 s.0 s.2 in
      subst (λ c. (right_at u (objective_row t) *ℤ neg_ℤ (entry y (c + 2))) ≤ℤ (lead_at u (objective_row t) *ℤ entry y c)) k.columns
      (least equations u q.tableau (length t.rows - 2) (rows_u u k) (objective_u u k) (phase_u u k) y h (point_u u k y p) (subst (λ l. NoneEnters (l - 2) u) b.kin.rows s.4))

  point_t : (u : Table) → IsKin t u → (y : Assignment) → IsPoint u y → IsPoint t y
  point_t u k y p = record {
    plain = λ j h. let e = k.plain in p.plain j (omega (arith, e, h));
    artificial = λ j h l. let e = k.plain in let f = k.columns in p.artificial j (omega (arith, e, h)) (omega (arith, f, l));
    denominator = subst (λ c. entry y (c + 2) <ℤ pos 0) k.columns p.denominator;
  }

  ray_t : (u : Table) → IsKin t u → (y : Assignment) → IsRay u y → IsRay t y
  ray_t u k y p = record {
    plain = λ j h. let e = k.plain in p.plain j (omega (arith, e, h));
    artificial = λ j h l. let e = k.plain in let f = k.columns in p.artificial j (omega (arith, e, h)) (omega (arith, f, l));
    denominator = subst (λ c. entry y (c + 2) ≡ pos 0) k.columns p.denominator;
    falls = subst (λ c. entry y c <ℤ pos 0) k.columns p.falls;
  }

  solution : (limit : ℕ) (u : Table) (m : ℕ) (e : PhaseEnd) → InSecond limit t u m e
      → (y : Assignment) × Solves equations y × IsPoint t y × (right_at u (objective_row t) *ℤ neg_ℤ (entry y (t.columns + 2)) ≡ lead_at u (objective_row t) *ℤ entry y t.columns)
  solution limit u m e s =
      let q = second limit u m e s in
      let k = q.kin in
      let b = basic_solution equations u q.tableau (length t.rows - 2) (rows_u u k) q.ready.basics (objective_u u k) (phase_u u k) q.ready.plain_below q.feasible q.zeros in
      (b.0, b.1, point_t u k b.0 b.2, subst (λ c. right_at u (objective_row t) *ℤ neg_ℤ (entry b.0 (c + 2)) ≡ lead_at u (objective_row t) *ℤ entry b.0 c) k.columns b.3)

  unbounded : (limit : ℕ) (u : Table) (m c : ℕ) → InSecond limit t u m (phase.Unbounded c) → ((y : Assignment) × Solves equations y × IsPoint t y) × ((y : Assignment) × Solves equations y × IsRay t y)
  unbounded limit u m c s =
      let q = second limit u m (phase.Unbounded c) s in
      let k = q.kin in
      let b = begun equations t start limit s.1 s.0 s.2 in
      let v = stays_kin equations (objective_row s.0) s.0.plain limit s.0 s.1 u m b.ready s.3 in
      let x = solution limit u m (phase.Unbounded c) s in
      let e : objective_row s.0 ≡ objective_row t = ap (λ l. l - 2) b.kin.rows in
      let r = ray equations u q.tableau (length t.rows - 2) (rows_u u k) q.ready.basics (objective_u u k) (phase_u u k) q.ready.plain_below c q.ready.idle (subst (λ i. IsEntering i u c) e s.4.0)
      (subst (λ b. NoneLeaves b u c) (sym v.plain) s.4.1) in
      ((x.0, x.1, x.2), (r.0, r.1, ray_t u k r.0 r.2))

module _ (equations : List Row) (t : Table) (start : IsStart equations t) where
  first_feasible : (limit : ℕ) (u : Table) (n : ℕ) (e : PhaseEnd) → InFirst limit t u n e → IsOf equations u × IsFeasible u
  first_feasible limit u n e f = let r = stays_ready equations (phase_row t) t.columns limit t 0 u n (ready_first equations t start) f.1 in (r.tableau, r.feasible)

  second_feasible : (limit : ℕ) (u : Table) (n : ℕ) (e : PhaseEnd) → InSecond limit t u n e → IsOf equations u × IsFeasible u
  second_feasible limit u n e s = let q = second equations t start limit u n e s in (q.tableau, q.feasible)

  drive_feasible : (limit n m i : ℕ) (v u : Table) → InFirst limit t v m phase.Done → right_at v (phase_row t) ≤ℤ pos 0 → Drives limit v m i u n → i + 2 < length u.rows
      → IsOf equations u × IsFeasible u
  drive_feasible limit n m i v u f low d h =
      let k = (kin_first equations t start limit m v phase.Done f).rows in
      let e = drive_rows limit v m i u n d in
      let r = driven equations t limit v m i u n d (omega (arith, k, e, h)) (driven_first equations t start limit m v phase.Done f low) in
      (r.tableau, r.feasible)

  feasible_by : (limit : ℕ) (u : Table) (e : LpEnd) → RunEnds limit t u e → IsOf equations u × IsFeasible u
  feasible_by limit u (lp.Optimal n) s = second_feasible limit u n phase.Done s
  feasible_by limit u (lp.Infeasible n) s = first_feasible limit u n phase.Done s.0
  feasible_by limit u (lp.Unbounded n c) (inl s) = first_feasible limit u n (phase.Unbounded c) s
  feasible_by limit u (lp.Unbounded n c) (inr s) = second_feasible limit u n (phase.Unbounded c) s
  feasible_by limit u (lp.Wide n r c) (inl s) = first_feasible limit u n (phase.Wide r c) s
  feasible_by limit u (lp.Wide n r c) (inr (inl s)) = drive_feasible limit n s.1 r s.0 u s.2 s.3 s.4.0 s.4.1
  feasible_by limit u (lp.Wide n r c) (inr (inr s)) = second_feasible limit u n (phase.Wide r c) s
  feasible_by limit u (lp.PivotLimit n) (inl s) = first_feasible limit u n phase.Limit s
  feasible_by limit u (lp.PivotLimit n) (inr (inl s)) = drive_feasible limit n s.1 s.4.0 s.0 u s.2 s.3 s.4.2 s.4.3
  feasible_by limit u (lp.PivotLimit n) (inr (inr s)) = second_feasible limit u n phase.Limit s

pub ends_feasible : (equations : List Row) (limit : ℕ) (t u : Table) (e : LpEnd) → IsStart equations t → RunEnds limit t u e → IsOf equations u × IsFeasible u
ends_feasible equations limit t u e start run = feasible_by equations t start limit u e run

pub optimal_is_attained : (equations : List Row) (limit : ℕ) (t u : Table) (n : ℕ) → IsStart equations t → RunEnds limit t u (lp.Optimal n)
    → (y : Assignment) × Solves equations y × IsPoint t y × (right_at u (objective_row t) *ℤ neg_ℤ (entry y (t.columns + 2)) ≡ lead_at u (objective_row t) *ℤ entry y t.columns)
optimal_is_attained equations limit t u n start run = solution equations t start limit u n phase.Done run

pub unbounded_is_right : (equations : List Row) (limit : ℕ) (t u : Table) (n c : ℕ) → IsStart equations t → RunEnds limit t u (lp.Unbounded n c)
    → ((y : Assignment) × Solves equations y × IsPoint t y) × ((y : Assignment) × Solves equations y × IsRay t y)
unbounded_is_right equations limit t u n c start (inl f) = absurd (first_bounded equations t start limit u n c f)
unbounded_is_right equations limit t u n c start (inr s) = unbounded equations t start limit u n c s

pub first_is_bounded : (equations : List Row) (limit : ℕ) (t u : Table) (n c : ℕ) → IsStart equations t → ¬ (InFirst limit t u n (phase.Unbounded c))
first_is_bounded equations limit t u n c start f = first_bounded equations t start limit u n c f

pub infeasible_is_right : (equations : List Row) (limit : ℕ) (t u : Table) (n : ℕ) → IsStart equations t → RunEnds limit t u (lp.Infeasible n) → (y : Assignment) → Solves equations y → ¬ (IsPoint t y)
infeasible_is_right equations limit t u n start run y s p = infeasible equations t start limit u n run.0 run.1 y s p

pub optimal_is_least : (equations : List Row) (limit : ℕ) (t u : Table) (n : ℕ) → IsStart equations t → RunEnds limit t u (lp.Optimal n) → (y : Assignment) → Solves equations y → IsPoint t y
    → (right_at u (objective_row t) *ℤ neg_ℤ (entry y (t.columns + 2))) ≤ℤ (lead_at u (objective_row t) *ℤ entry y t.columns)
optimal_is_least equations limit t u n start run y s p = optimal equations t start limit u n run y s p
