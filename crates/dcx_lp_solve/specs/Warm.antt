-- What a warm run on a scaled program ends with, from listed columns, and when it gives nothing.
use Rattle.std.specs.Prelude.{ℕ, List, Option, Some, None}
use Rattle.dcx_tab.specs.declared.program.Program.{Program}
use Rattle.dcx_tab.specs.Table.{Table}
use Rattle.dcx_tab.specs.First.{first_tableau}
use Rattle.dcx_chained.specs.Tables.{table_of}
use Rattle.dcx_lp_answer.specs.declared.answer.LpStatus.TheVariants as status
use Rattle.dcx_lp_answer.specs.declared.answer.LpAnswer.{LpAnswer}
use Rattle.dcx_simplex.specs.Reading.{IsReading, HasNoRay}
use Rattle.dcx_warm.specs.Install.{IsColumnList}
use Rattle.dcx_warm.specs.Warm.{WarmEnds, NeverEnds}
use Rattle.dcx_std.specs.GivenRows.{GivenRows}
use Rattle.dcx_std.specs.IntegerRows.{IsMade}
use Rattle.dcx_lp_solve.specs.declared.solving.Solved.{Solved}
use Rattle.dcx_lp_solve.specs.declared.warming.WarmEnd.{WarmEnd}

-- ---- the run on a scaled program
-- the columns are different ones of the program and none is an artificial, the warm run from its first basis, with at most so many
-- pivots, ends optimal at the tableau, and the answer has the numbers that the tableau shows
pub record IsWarmRun (limit : ℕ) (columns : List ℕ) (program : Program) (t : Table) (a : LpAnswer) : Type 0 where
  pub list : IsColumnList (first_tableau program).plain columns
  pub pivots : ℕ
  pub run : WarmEnds limit columns (first_tableau program) t pivots
  pub numbers : IsReading program.rows program.columns t status.Optimal a
  pub no_ray : HasNoRay a

-- how it ends: so, or it never ends optimal from these columns
abbrev pub RunsWarm : ℕ → List ℕ → Program → Option WarmEnd → Type 0
RunsWarm limit columns program (Some e) = IsWarmRun limit columns program (table_of e.tableau) e.answer
RunsWarm limit columns program None = IsColumnList (first_tableau program).plain columns → NeverEnds limit columns (first_tableau program)

-- ---- rows
-- they have a scaled program, which is solved so
pub record IsWarmSolved (limit : ℕ) (columns : List ℕ) (given : GivenRows) (s : Solved) : Type 0 where
  pub made : IsMade given s.program
  pub solved : IsWarmRun limit columns s.program (table_of s.tableau) s.answer

-- a scaled program beside what its run ends with
abbrev pub with_end : Program → WarmEnd → Solved
with_end program e = record { program = program; tableau = e.tableau; answer = e.answer }
