-- What a session answers at a setting: the answer that is read at the end of the run on its program, or what stops it first.
use Rattle.std.specs.Prelude.{◌≡◌, ◌≢◌, ⊤, ℕ, Result, Ok, Err}
use Rattle.dcx_frac.specs.declared.fraction.Frac.{Frac}
use Rattle.dcx_point.specs.Pairs.{Pairs}
use Rattle.dcx_tree.specs.declared.problem.Problem.{Problem}
use Rattle.dcx_answer.specs.declared.answer.Answer.{Answer}
use Rattle.dcx_answer.specs.declared.stop.Stop.{Stop}
use Rattle.dcx_answer.specs.declared.stop.Stop.TheVariants as why
use Rattle.dcx_fit.specs.Fit.{FitsParameters, IsFirstMisfit}
use Rattle.dcx_lp_solve.specs.declared.solving.Solved.{Solved}
use Rattle.dcx_lp_solve.specs.declared.stop.SolveStop.{SolveStop}
use Rattle.dcx_lp_solve.specs.declared.stop.SolveStop.TheVariants as solves
use Rattle.dcx_lp_solve.specs.Solved.{IsSolved, Stops as RowsStop}
use Rattle.dcx_std.specs.Solutions.{HasKinds}
use Rattle.dcx_graph.specs.declared.stop.ReduceStop.{ReduceStop}
use Rattle.dcx_graph.specs.declared.reading.AnswerStop.{AnswerStop}
use Rattle.dcx_graph.specs.declared.reading.AnswerStop.TheVariants as reads
use Rattle.dcx_graph.specs.Program.{Program}
use Rattle.dcx_graph.specs.Answers.{rows_of, IsRead, StopsReading}
use Rattle.dcx_cache.specs.Programs.{SessionGives}
use Rattle.dcx_lp_solve.specs.Stops.{run_stop}
use Rattle.dcx_cache.specs.Stops.{program_stop, reading_stop}

-- ---- answers
-- the setting fits the parameters, this is the session's program there, which names unknowns of its own alone, it is solved so with at
-- most so many pivots, and the answer is read from that
pub record IsAnswerOf (p : Problem) (setting : Pairs) (limit : ℕ) (q : Program Frac) (s : Solved) (a : Answer) : Type 0 where
  pub fits : FitsParameters p.parameters setting
  pub program : SessionGives p setting (Ok q)
  pub known : HasKinds (rows_of q)
  pub is_solved : IsSolved limit (rows_of q) s
  pub read : IsRead p q.kinds s.answer a

-- ---- stops
-- the first part of the way that stops: forming the program, solving its rows, or reading the answer
pub data StopsAt (p : Problem) (setting : Pairs) (limit : ℕ) (stop : Stop) : Type 0 where
  at_program : (e : ReduceStop) → SessionGives p setting (Err e) → stop ≡ program_stop e → StopsAt p setting limit stop
  at_run : (q : Program Frac) → SessionGives p setting (Ok q) → (e : SolveStop) → e ≢ solves.Memory → RowsStop limit (rows_of q) e → stop ≡ run_stop e → StopsAt p setting limit stop
  at_reading : (q : Program Frac) → SessionGives p setting (Ok q) → (s : Solved) → IsSolved limit (rows_of q) s → (e : AnswerStop) → e ≢ reads.Memory → StopsReading p s.answer e
      → stop ≡ reading_stop e
      → StopsAt p setting limit stop

-- the setting fits the parameters, and a part of the way stops
pub record IsStopped (p : Problem) (setting : Pairs) (limit : ℕ) (stop : Stop) : Type 0 where
  pub fits : FitsParameters p.parameters setting
  pub stops : StopsAt p setting limit stop

-- what stops a setting: the first misfit, or else the first part of the way that stops; want of memory is free
abbrev pub Stops : Problem → Pairs → ℕ → Stop → Type 0
Stops p setting limit (why.UnknownParam name) = IsFirstMisfit p.parameters setting (why.UnknownParam name)
Stops p setting limit (why.MissingParam name) = IsFirstMisfit p.parameters setting (why.MissingParam name)
Stops p setting limit (why.ParamShape name declared given) = IsFirstMisfit p.parameters setting (why.ParamShape name declared given)
Stops p setting limit (why.ParamSign name entry value) = IsFirstMisfit p.parameters setting (why.ParamSign name entry value)
Stops p setting limit (why.TooLarge rows columns) = IsStopped p setting limit (why.TooLarge rows columns)
Stops p setting limit (why.ZeroDivisor node entry) = IsStopped p setting limit (why.ZeroDivisor node entry)
Stops p setting limit (why.Wide site) = IsStopped p setting limit (why.Wide site)
Stops p setting limit (why.PivotLimit count) = IsStopped p setting limit (why.PivotLimit count)
Stops p setting limit why.Memory = ⊤

-- ---- one or the other
abbrev pub Answers : Problem → Pairs → ℕ → Result Answer Stop → Type 0
Answers p setting limit (Ok a) = (q : Program Frac) × (s : Solved) × IsAnswerOf p setting limit q s a
Answers p setting limit (Err stop) = Stops p setting limit stop
