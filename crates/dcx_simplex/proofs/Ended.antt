-- An answer that is read at the end of a run on a program is right for it.
use Rattle.std.proofs.Common.{◌≡◌, ℕ, ◌+◌, ◌-◌, ◌<◌, length, pos, ◌<ℤ◌, arith, sym, ◌∙◌, subst, inl, inr}
use Rattle.dcx_tab.specs.declared.program.Program.{Program}
use Rattle.dcx_tab.specs.First.{first_tableau}
use Rattle.dcx_tab.specs.Table.{Table}
use Rattle.dcx_simplex.specs.Run.{IsEntering, NoneEnters, NoneLeaves, right_at}
use Rattle.dcx_simplex.specs.Whole.{objective_row, InSecond, RunEnds}
use Rattle.dcx_simplex.specs.declared.phase.PhaseEnd.TheVariants as phase
use Rattle.dcx_simplex.specs.declared.run.LpEnd.TheVariants as lp
use Rattle.dcx_lp_answer.specs.declared.answer.LpStatus.TheVariants as status
use Rattle.dcx_lp_answer.specs.declared.answer.LpAnswer.{LpAnswer}
use Rattle.dcx_simplex.specs.Basis.{IsBasic}
use Rattle.dcx_simplex.specs.Start.{IsStart}
use Rattle.dcx_simplex.specs.Reading.{IsReading, IsRayReading}
use Rattle.dcx_simplex.specs.Readable.{IsReadable}
use Rattle.dcx_lp_answer.specs.Right.{IsOptimalAnswer, IsInfeasibleAnswer, IsUnboundedAnswer}
use Rattle.dcx_simplex.proofs.Limits.{begun}
use Rattle.dcx_simplex.proofs.Starts.{starts}
use Rattle.dcx_simplex.proofs.EndFacts.{IsEnded, ended_first, ended_second, readable, not_basic_of}
use Rattle.dcx_simplex.proofs.EndLaws.{second, first_is_bounded}
use Rattle.dcx_simplex.proofs.Rights.{columns_are, rows_are, optimal_right, infeasible_right, unbounded_right}

module _ (p : Program) (u : Table) where
  start : IsStart (first_tableau p).rows (first_tableau p)
  start = starts p.rows p.columns p.objective p.phase p.form

  pub record Shown : Type 0 where
    pub readable : IsReadable u
    pub rows : length u.rows ≡ length p.rows + 2
    pub columns : u.columns ≡ length p.columns

  shown : IsEnded (first_tableau p).rows (first_tableau p) u → Shown
  shown e = record {
    readable = readable (first_tableau p).rows (first_tableau p) start u e;
    rows = rows_are p u e;
    columns = columns_are p u e;
  }

  -- ---- no end in phase 1 is unbounded
  pub in_second : (limit n c : ℕ) → RunEnds limit (first_tableau p) u (lp.Unbounded n c) → InSecond limit (first_tableau p) u n (phase.Unbounded c)
  in_second limit n c (inl f) = absurd (first_is_bounded (first_tableau p).rows limit (first_tableau p) u n c start f)
  in_second limit n c (inr s) = s

  -- ---- what is shown
  pub shown_optimal : (limit n : ℕ) → RunEnds limit (first_tableau p) u (lp.Optimal n) → Shown
  shown_optimal limit n run = shown (ended_second (first_tableau p).rows (first_tableau p) start limit u n phase.Done run)

  pub shown_infeasible : (limit n : ℕ) → RunEnds limit (first_tableau p) u (lp.Infeasible n) → Shown
  shown_infeasible limit n run = shown (ended_first (first_tableau p).rows (first_tableau p) start limit u n phase.Done run.0)

  pub shown_unbounded : (limit n c : ℕ) → RunEnds limit (first_tableau p) u (lp.Unbounded n c) → Shown
  shown_unbounded limit n c run = shown (ended_second (first_tableau p).rows (first_tableau p) start limit u n (phase.Unbounded c) (in_second limit n c run))

  -- ---- an optimal end
  pub right_optimal : (limit n : ℕ) → RunEnds limit (first_tableau p) u (lp.Optimal n) → (a : LpAnswer) → IsReading p.rows p.columns u status.Optimal a → IsOptimalAnswer p a
  right_optimal limit n run a reading =
      let e = ended_second (first_tableau p).rows (first_tableau p) start limit u n phase.Done run in
      let s = second (first_tableau p).rows (first_tableau p) start limit u n phase.Done run in
      let b = begun (first_tableau p).rows (first_tableau p) start limit run.1 run.0 run.2 in
      optimal_right p u e a reading (subst (λ l. NoneEnters (l - 2) u) (b.kin.rows ∙ sym e.kin.rows) run.4) s.zeros

  -- ---- an infeasible end
  pub right_infeasible : (limit n : ℕ) → RunEnds limit (first_tableau p) u (lp.Infeasible n) → (a : LpAnswer) → IsReading p.rows p.columns u status.Infeasible a → IsInfeasibleAnswer p a
  right_infeasible limit n run a reading =
      let e = ended_first (first_tableau p).rows (first_tableau p) start limit u n phase.Done run.0 in
      infeasible_right p u e a reading (subst (λ l. NoneEnters (l - 1) u) (sym e.kin.rows) run.0.2) (subst (λ l. pos 0 <ℤ right_at u (l - 1)) (sym e.kin.rows) run.1)

  -- ---- an unbounded end
  pub enters_unbounded : (limit n c : ℕ) → RunEnds limit (first_tableau p) u (lp.Unbounded n c) → IsEntering (objective_row u) u c
  enters_unbounded limit n c run =
      let s = in_second limit n c run in
      let e = ended_second (first_tableau p).rows (first_tableau p) start limit u n (phase.Unbounded c) s in
      let b = begun (first_tableau p).rows (first_tableau p) start limit s.1 s.0 s.2 in
      subst (λ l. IsEntering (l - 2) u c) (b.kin.rows ∙ sym e.kin.rows) s.4.0

  pub column_unbounded : (limit n c : ℕ) → RunEnds limit (first_tableau p) u (lp.Unbounded n c) → c < u.columns
  column_unbounded limit n c run =
      let f = (enters_unbounded limit n c run).column in
      let e = ended_second (first_tableau p).rows (first_tableau p) start limit u n (phase.Unbounded c) (in_second limit n c run) in
      let g = start.plain_below in
      let a = e.kin.plain in
      let b = e.kin.columns in
      omega (arith, f, g, a, b)

  pub new_unbounded : (limit n c : ℕ) → RunEnds limit (first_tableau p) u (lp.Unbounded n c) → ¬ (IsBasic u c)
  new_unbounded limit n c run =
      let e = ended_second (first_tableau p).rows (first_tableau p) start limit u n (phase.Unbounded c) (in_second limit n c run) in
      let g = start.enough in
      let r = e.kin.rows in
      not_basic_of (first_tableau p).rows (first_tableau p) start u e (objective_row u) c (omega (arith, g, r)) (omega (arith, g, r)) (enters_unbounded limit n c run).eligible

  pub right_unbounded : (limit n c : ℕ) → RunEnds limit (first_tableau p) u (lp.Unbounded n c) → (a : LpAnswer) → IsReading p.rows p.columns u status.Unbounded a → IsRayReading p.columns u c a
      → IsUnboundedAnswer p a
  right_unbounded limit n c run a reading ray =
      let s = in_second limit n c run in
      let e = ended_second (first_tableau p).rows (first_tableau p) start limit u n (phase.Unbounded c) s in
      let q = second (first_tableau p).rows (first_tableau p) start limit u n (phase.Unbounded c) s in
      let b = begun (first_tableau p).rows (first_tableau p) start limit s.1 s.0 s.2 in
      let v : s.0.plain ≡ u.plain = b.kin.plain ∙ sym e.kin.plain in
      unbounded_right p u e a c reading ray (enters_unbounded limit n c run) (subst (λ b. NoneLeaves b u c) v s.4.1) q.ready.idle q.zeros
