-- The ends of a run on a program that have an answer.
use Rattle.std.specs.Prelude.{ℕ}
use Rattle.dcx_tab.specs.declared.program.Program.{Program}
use Rattle.dcx_tab.specs.First.{first_tableau}
use Rattle.dcx_tab.specs.Table.{Table}
use Rattle.dcx_simplex.specs.Whole.{RunEnds}
use Rattle.dcx_simplex.specs.declared.run.LpEnd.{LpEnd}
use Rattle.dcx_simplex.specs.declared.run.LpEnd.TheVariants as lp

-- the run on the program, for some limit, ends so at tableau t: optimal, infeasible or unbounded
abbrev pub IsFinished : Program → Table → LpEnd → Type 0
IsFinished p t (lp.Optimal n) = (limit : ℕ) × RunEnds limit (first_tableau p) t (lp.Optimal n)
IsFinished p t (lp.Infeasible n) = (limit : ℕ) × RunEnds limit (first_tableau p) t (lp.Infeasible n)
IsFinished p t (lp.Unbounded n c) = (limit : ℕ) × RunEnds limit (first_tableau p) t (lp.Unbounded n c)
IsFinished p t (lp.Wide n r c) = ⊥
IsFinished p t (lp.PivotLimit n) = ⊥
