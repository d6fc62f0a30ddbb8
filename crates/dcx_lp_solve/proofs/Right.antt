-- What is read at the end of a run is right.
use Rattle.std.proofs.Common.{ℕ, sym, subst}
use Rattle.dcx_tab.specs.declared.program.Program.{Program}
use Rattle.dcx_tab.specs.First.{first_tableau}
use Rattle.dcx_tab.specs.Table.{Table}
use Rattle.dcx_chained.specs.Tables.{table_of}
use Rattle.dcx_lp_answer.specs.declared.answer.LpAnswer.{LpAnswer}
use Rattle.dcx_lp_answer.specs.Right.{IsRightAs, IsRight}
use Rattle.dcx_simplex.specs.declared.run.LpEnd.{LpEnd}
use Rattle.dcx_simplex.specs.declared.run.LpEnd.TheVariants as ends
use Rattle.dcx_simplex.specs.Whole.{RunEnds}
use Rattle.dcx_simplex.specs.Reading.{IsRead}
use Rattle.dcx_simplex.proofs.Ended.{right_optimal, right_infeasible, right_unbounded}
use Rattle.dcx_lp_solve.specs.declared.solving.Solved.{Solved}
use Rattle.dcx_lp_solve.specs.Solved.{IsRunSolved}
use Rattle.dcx_lp_solve.specs.Right.{AnswersAreRight}

read_right : (limit : ℕ) (q : Program) (t : Table) (e : LpEnd) (a : LpAnswer) → RunEnds limit (first_tableau q) t e → IsRead q.rows q.columns t e a → IsRight q a
read_right limit q t (ends.Optimal n) a run read = subst (λ s. IsRightAs s q a) (sym read.0.status) (right_optimal q t limit n run a read.0)
read_right limit q t (ends.Infeasible n) a run read = subst (λ s. IsRightAs s q a) (sym read.0.status) (right_infeasible q t limit n run a read.0)
read_right limit q t (ends.Unbounded n c) a run read = subst (λ s. IsRightAs s q a) (sym read.0.status) (right_unbounded q t limit n c run a read.0 read.1)
read_right limit q t (ends.Wide n r c) a run read = absurd read
read_right limit q t (ends.PivotLimit n) a run read = absurd read

pub run_right : (limit : ℕ) (q : Program) (s : Solved) → IsRunSolved limit q s → IsRight s.program s.answer
run_right limit q s h = subst (λ (p : Program). IsRight p s.answer) (sym h.same) (read_right limit q (table_of s.tableau) h.end s.answer h.run h.read)

pub answers_are_right : AnswersAreRight
answers_are_right limit given s h = run_right limit s.program s h.solved
