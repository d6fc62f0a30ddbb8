-- A run that ends at the limit has a small limit.
use Rattle.std.proofs.Common.{◌≡◌, ℕ, ◌+◌, ◌-◌, ◌*◌, ◌^◌, ◌<◌, ◌≤◌, List, length, pos, ◌≤ℤ◌, arith, refl, sym, ap, ◌∙◌, subst, inl, inr, add-one}
use Rattle.std.proofs.Math.Nat.{pow-suc}
use Rattle.std.proofs.lemmas.Nat.{pow_pos}
use Rattle.dcx_tab.specs.Rows.{entry, Row, basic_at}
use Rattle.dcx_tab.specs.Table.{Table}
use Rattle.dcx_simplex.specs.Run.{right_at}
use Rattle.dcx_simplex.specs.Whole.{objective_row, phase_row, InFirst, InDrive, InSecond, Starts, RunEnds}
use Rattle.dcx_simplex.specs.declared.phase.PhaseEnd.{PhaseEnd}
use Rattle.dcx_simplex.specs.declared.phase.PhaseEnd.TheVariants as phase
use Rattle.dcx_simplex.specs.declared.drive.DriveEnd.TheVariants as drive
use Rattle.dcx_simplex.specs.declared.run.LpEnd.{LpEnd}
use Rattle.dcx_simplex.specs.declared.run.LpEnd.TheVariants as lp
use Rattle.dcx_simplex.specs.Basis.{IsReady}
use Rattle.dcx_simplex.specs.Start.{IsSumRow, IsStart, enough_pivots, pivots_of, HasSmallLimit}
use Rattle.dcx_simplex.proofs.Chains.{IsKin}
use Rattle.dcx_simplex.proofs.PhaseLaws.{stays_ready, stays_kin, few_pivots}
use Rattle.dcx_simplex.proofs.Artificials.{artificials_zero}
use Rattle.dcx_simplex.proofs.Driving.{IsDriven, driven, drive_count, drive_rows}

pow_next : (n : ℕ) → 2 ^ (n + 1) ≡ 2 ^ n * 2
pow_next n = ap (λ m. 2 ^ m) (add-one n) ∙ pow-suc 2 n

module _ (equations : List Row) (t : Table) (start : IsStart equations t) where
  -- phase 1 may begin
  pub ready_first : IsReady equations (phase_row t) t.columns t
  ready_first =
      let e = start.enough in
      record {
        tableau = start.tableau;
        cost_row = omega (arith, e);
        cost_last = omega (arith, e);
        feasible = start.feasible;
        basics = start.basics;
        plain_below = start.plain_below;
        plain = start.plain_below;
        idle = λ i h b c l. let g = start.basics i h in absurd (omega (arith, g, b));
      }

  pub kin_first : (limit n : ℕ) (u : Table) (e : PhaseEnd) → InFirst limit t u n e → IsKin t u
  kin_first limit n u e f = stays_kin equations (phase_row t) t.columns limit t 0 u n ready_first f.1

  first_few : (limit n : ℕ) (u : Table) (e : PhaseEnd) → InFirst limit t u n e → n < 2 ^ t.columns
  first_few limit n u e f = let h = few_pivots equations (phase_row t) t.columns limit t 0 u n ready_first f.1 in omega (arith, h)

  pub sum_row_after : (u : Table) (row : Row) → IsKin t u → IsSumRow equations t row → IsSumRow equations u row
  sum_row_after u row k s = record {
    width = s.width ∙ ap (λ c. c + 3) (sym k.columns);
    zeros = λ j h. let p = k.plain in s.zeros j (omega (arith, p, h));
    ones = λ j h l. let p = k.plain in let q = k.columns in s.ones j (omega (arith, p, h)) (omega (arith, q, l));
    z = ap (λ c. entry row c) k.columns ∙ s.z;
    w = ap (λ c. entry row (c + 1)) k.columns ∙ s.w;
    right = ap (λ c. entry row (c + 2)) k.columns ∙ s.right;
    holds = s.holds;
  }

  -- driving out may begin
  pub driven_first : (limit n : ℕ) (u : Table) (e : PhaseEnd) → InFirst limit t u n e → right_at u (phase_row t) ≤ℤ pos 0 → IsDriven equations t 0 u
  driven_first limit n u e f low =
      let r = stays_ready equations (phase_row t) t.columns limit t 0 u n ready_first f.1 in
      let k = kin_first limit n u e f in
      let m = length t.rows - 2 in
      let g = start.enough in
      let a = k.rows in
      let next : m + 1 ≡ phase_row t = omega (arith, g) in
      record {
        tableau = r.tableau;
        kin = k;
        feasible = r.feasible;
        basics = r.basics;
        plain_below = r.plain_below;
        zeros = artificials_zero equations u r.tableau r.feasible m (omega (arith, g, a)) r.basics
            (k.last m (omega (arith, g)) (omega (arith, g)) ∙ start.objective ∙ sym k.columns)
            (ap (basic_at u.basis) next ∙ k.last (phase_row t) (omega (arith, g)) (omega (arith, g)) ∙ start.phase ∙ ap (λ c. c + 1) (sym k.columns))
            start.sum.0 (sum_row_after u start.sum.0 k start.sum.1) (subst (λ i. right_at u i ≤ℤ pos 0) (sym next) low);
        idle = λ i h. absurd (omega arith);
      }

  in_drive : (limit n : ℕ) (u : Table) → InDrive limit t u n drive.Limit → limit < enough_pivots t
  in_drive limit n u d =
      let few = first_few limit d.1 d.0 phase.Done d.2 in
      let k = (kin_first limit d.1 d.0 phase.Done d.2).rows in
      let x = d.4 in
      let count = drive_count limit d.0 d.1 x.0 u n x.2 in
      let rows = drive_rows limit d.0 d.1 x.0 u n x.2 in
      let i = x.3 in
      let l = x.6 in
      let p = pow_next t.columns in
      omega (arith, few, k, count, rows, i, l, p)

  ready_driven : (u : Table) → IsDriven equations t (length t.rows - 2) u → IsReady equations (objective_row u) u.plain u
  ready_driven u d =
      let e = start.enough in
      let k = d.kin.rows in
      record {
        tableau = d.tableau;
        cost_row = omega (arith, e, k);
        cost_last = omega (arith, e, k);
        feasible = d.feasible;
        basics = d.basics;
        plain_below = d.plain_below;
        plain = omega arith;
        idle = λ i h b c l. d.idle i (omega (arith, h, k)) h b c l;
      }

  -- what is known where phase 2 begins
  pub record Begun (u : Table) (n : ℕ) : Type 0 where
    pub ready : IsReady equations (objective_row u) u.plain u
    pub columns : u.columns ≡ t.columns
    pub kin : IsKin t u
    pub zeros : (k : ℕ) → k + 2 < length u.rows → u.plain ≤ basic_at u.basis k → right_at u k ≡ pos 0
    pub few : n < 2 ^ t.columns + (length t.rows - 2)

  begun_drive : (limit n : ℕ) (u : Table) → InDrive limit t u n drive.Driven → Begun u n
  begun_drive limit n u d =
      let few = first_few limit d.1 d.0 phase.Done d.2 in
      let k = (kin_first limit d.1 d.0 phase.Done d.2).rows in
      let x = d.4 in
      let e = start.enough in
      let y = x.1 in
      let at_end : x.0 ≡ length t.rows - 2 = omega (arith, y, k) in
      let first = driven_first limit d.1 d.0 phase.Done d.2 d.3 in
      let last = driven equations t limit d.0 d.1 x.0 u n x.2 (omega (arith, y, k)) first in
      let count = drive_count limit d.0 d.1 x.0 u n x.2 in
      record {
        ready = ready_driven u (subst (λ i. IsDriven equations t i u) at_end last);
        columns = last.kin.columns;
        kin = last.kin;
        zeros = last.zeros;
        few = omega (arith, few, count, at_end);
      }

  pub begun : (limit n : ℕ) (u : Table) → Starts limit t u n → Begun u n
  begun limit n u (inl s) = subst (λ w. Begun w n) (sym s.1) (record {
    ready = (let e = start.enough in record {
      tableau = start.tableau;
      cost_row = omega (arith, e);
      cost_last = omega (arith, e);
      feasible = start.feasible;
      basics = start.basics;
      plain_below = start.plain_below;
      plain = omega arith;
      idle = λ i h b c l. let g = start.basics i h in let f = s.0 in absurd (omega (arith, g, b, f));
    });
    columns = refl;
    kin = record { rows = refl; columns = refl; plain = refl; last = λ k l m. refl };
    zeros = λ k h l. let g = start.basics k h in let f = s.0 in absurd (omega (arith, g, l, f));
    few = (let z = s.2 in let p = pow_pos t.columns in omega (arith, z, p));
  })
  begun limit n u (inr d) = begun_drive limit n u d

  pub second_few : (limit n : ℕ) (u : Table) (e : PhaseEnd) → InSecond limit t u n e → n < enough_pivots t
  second_few limit n u e s =
      let b = begun limit s.1 s.0 s.2 in
      let h = few_pivots equations (objective_row s.0) s.0.plain limit s.0 s.1 u n b.ready s.3 in
      let g = b.few in
      let c = ap (λ c. 2 ^ c) b.columns in
      let p = pow_next t.columns in
      omega (arith, h, g, c, p)

  in_first : (limit n : ℕ) (u : Table) → InFirst limit t u n phase.Limit → limit < enough_pivots t
  in_first limit n u f =
      let few = first_few limit n u phase.Limit f in
      let l = f.2.1 in
      let p = pow_next t.columns in
      omega (arith, few, l, p)

  in_second : (limit n : ℕ) (u : Table) → InSecond limit t u n phase.Limit → limit < enough_pivots t
  in_second limit n u s =
      let few = second_few limit n u phase.Limit s in
      let l = s.4.1 in
      omega (arith, few, l)

  wide_drive : (limit n r c : ℕ) (u : Table) → InDrive limit t u n (drive.Wide r c) → n < enough_pivots t
  wide_drive limit n r c u d =
      let few = first_few limit d.1 d.0 phase.Done d.2 in
      let k = (kin_first limit d.1 d.0 phase.Done d.2).rows in
      let x = d.4 in
      let count = drive_count limit d.0 d.1 r u n x.0 in
      let rows = drive_rows limit d.0 d.1 r u n x.0 in
      let i = x.1 in
      let p = pow_next t.columns in
      omega (arith, few, k, count, rows, i, p)

  limit_drive : (limit n : ℕ) (u : Table) → InDrive limit t u n drive.Limit → n < enough_pivots t
  limit_drive limit n u d =
      let few = first_few limit d.1 d.0 phase.Done d.2 in
      let k = (kin_first limit d.1 d.0 phase.Done d.2).rows in
      let x = d.4 in
      let count = drive_count limit d.0 d.1 x.0 u n x.2 in
      let rows = drive_rows limit d.0 d.1 x.0 u n x.2 in
      let i = x.3 in
      let p = pow_next t.columns in
      omega (arith, few, k, count, rows, i, p)

  few_of_first : (limit n : ℕ) (u : Table) (e : PhaseEnd) → InFirst limit t u n e → n < enough_pivots t
  few_of_first limit n u e f =
      let few = first_few limit n u e f in
      let p = pow_next t.columns in
      omega (arith, few, p)

  pub few_by : (limit : ℕ) (u : Table) (e : LpEnd) → RunEnds limit t u e → pivots_of e < enough_pivots t
  few_by limit u (lp.Optimal n) s = second_few limit n u phase.Done s
  few_by limit u (lp.Infeasible n) s = few_of_first limit n u phase.Done s.0
  few_by limit u (lp.Unbounded n c) (inl s) = few_of_first limit n u (phase.Unbounded c) s
  few_by limit u (lp.Unbounded n c) (inr s) = second_few limit n u (phase.Unbounded c) s
  few_by limit u (lp.Wide n r c) (inl s) = few_of_first limit n u (phase.Wide r c) s
  few_by limit u (lp.Wide n r c) (inr (inl s)) = wide_drive limit n r c u s
  few_by limit u (lp.Wide n r c) (inr (inr s)) = second_few limit n u (phase.Wide r c) s
  few_by limit u (lp.PivotLimit n) (inl s) = few_of_first limit n u phase.Limit s
  few_by limit u (lp.PivotLimit n) (inr (inl s)) = limit_drive limit n u s
  few_by limit u (lp.PivotLimit n) (inr (inr s)) = second_few limit n u phase.Limit s

  pub ends_by : (limit : ℕ) (u : Table) (n : ℕ) → RunEnds limit t u (lp.PivotLimit n) → limit < enough_pivots t
  ends_by limit u n (inl f) = in_first limit n u f
  ends_by limit u n (inr (inl f)) = in_drive limit n u f
  ends_by limit u n (inr (inr f)) = in_second limit n u f

pub ends_below : (equations : List Row) (limit : ℕ) (t u : Table) (n : ℕ) → IsStart equations t → RunEnds limit t u (lp.PivotLimit n) → limit < enough_pivots t
ends_below equations limit t u n start run = ends_by equations t start limit u n run

pub few_in_all : (equations : List Row) (limit : ℕ) (t u : Table) (e : LpEnd) → IsStart equations t → RunEnds limit t u e → pivots_of e < enough_pivots t
few_in_all equations limit t u e start run = few_by equations t start limit u e run

pub small_limit : (t u : Table) (limit : ℕ) (e : LpEnd) → RunEnds limit t u e → HasSmallLimit t limit e
small_limit t u limit (lp.Optimal n) s = tt
small_limit t u limit (lp.Infeasible n) s = tt
small_limit t u limit (lp.Unbounded n c) s = tt
small_limit t u limit (lp.Wide n r c) s = tt
small_limit t u limit (lp.PivotLimit n) s = λ equations start. ends_below equations limit t u n start s
