-- Rows have one solution under a limit, or one stop and no solution. Want of memory is free.
use Rattle.std.specs.Prelude.{◌≡◌, ◌≢◌, ℕ, ◌+◌, ◌^◌, ◌<◌, List, length}
use Rattle.dcx_tab.specs.declared.program.Program.{Program}
use Rattle.dcx_chained.specs.Tables.{table_of}
use Rattle.dcx_std.specs.GivenRows.{GivenRows}
use Rattle.dcx_std.specs.IntegerRows.{IsMade}
use Rattle.dcx_lp_solve.specs.declared.solving.Solved.{Solved}
use Rattle.dcx_lp_solve.specs.declared.stop.SolveStop.{SolveStop}
use Rattle.dcx_lp_solve.specs.declared.stop.SolveStop.TheVariants as stops
use Rattle.dcx_lp_solve.specs.Solved.{IsSolved, Stops}
use Rattle.dcx_lp_solve.specs.Warm.{IsWarmSolved}

-- the same program, the same tableau at the end, and the same answer
pub record IsSameSolution (s t : Solved) : Type 0 where
  pub program : s.program ≡ t.program
  pub table : table_of s.tableau ≡ table_of t.tableau
  pub answer : s.answer ≡ t.answer

-- rows have one solution
abbrev pub AnswersAreOne : Type 0
AnswersAreOne = (limit : ℕ) (given : GivenRows) (s t : Solved) → IsSolved limit given s → IsSolved limit given t → IsSameSolution s t

-- and one by a warm run from the same columns
abbrev pub WarmAnswersAreOne : Type 0
WarmAnswersAreOne = (limit : ℕ) (columns : List ℕ) (given : GivenRows) (s t : Solved) → IsWarmSolved limit columns given s → IsWarmSolved limit columns given t → IsSameSolution s t

-- rows that are solved have no stop but want of memory
abbrev pub SolvedOrStopped : Type 0
SolvedOrStopped = (limit : ℕ) (given : GivenRows) (s : Solved) (stop : SolveStop) → IsSolved limit given s → Stops limit given stop → stop ≡ stops.Memory

-- rows have one stop, want of memory aside
abbrev pub StopsAreOne : Type 0
StopsAreOne = (limit : ℕ) (given : GivenRows) (s t : SolveStop) → Stops limit given s → Stops limit given t → s ≢ stops.Memory → t ≢ stops.Memory → s ≡ t

-- a limit that stops rows is small: their program, whose columns are counted with the artificials, bounds it
abbrev pub FewPivots : Type 0
FewPivots = (limit : ℕ) (given : GivenRows) (count : ℕ) → Stops limit given (stops.PivotLimit count) → (q : Program) × IsMade given q × (limit < 2 ^ (length q.columns + 1) + length q.rows)
