-- What is read at the end of a run is right.
use Rattle.std.specs.Prelude.{ℕ, List}
use Rattle.dcx_lp_answer.specs.Right.{IsRight}
use Rattle.dcx_std.specs.GivenRows.{GivenRows}
use Rattle.dcx_lp_solve.specs.declared.solving.Solved.{Solved}
use Rattle.dcx_lp_solve.specs.Solved.{IsSolved}
use Rattle.dcx_lp_solve.specs.Warm.{IsWarmSolved}

-- the answer of rows that are solved is right for their scaled program
abbrev pub AnswersAreRight : Type 0
AnswersAreRight = (limit : ℕ) (given : GivenRows) (s : Solved) → IsSolved limit given s → IsRight s.program s.answer

-- so is one that a warm run gives
abbrev pub WarmAnswersAreRight : Type 0
WarmAnswersAreRight = (limit : ℕ) (columns : List ℕ) (given : GivenRows) (s : Solved) → IsWarmSolved limit columns given s → IsRight s.program s.answer
