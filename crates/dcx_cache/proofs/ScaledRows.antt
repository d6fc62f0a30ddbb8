-- What the run on the scaled program of a session's rows gives is an answer of the setting, or its stop.
use Rattle.std.proofs.Common.{ℕ}
use Rattle.dcx_frac.specs.declared.fraction.Frac.{Frac}
use Rattle.dcx_point.specs.Pairs.{Pairs}
use Rattle.dcx_tree.specs.declared.problem.Problem.{Problem}
use Rattle.dcx_answer.specs.declared.answer.Answer.{Answer}
use Rattle.dcx_tab.specs.declared.program.Program as tab
use Rattle.dcx_lp_solve.specs.declared.solving.Solved.{Solved}
use Rattle.dcx_lp_solve.specs.declared.stop.SolveStop.{SolveStop}
use Rattle.dcx_lp_solve.specs.Solved.{IsRunSolved, RunStops, IsSolved}
use Rattle.dcx_lp_solve.specs.Stops.{run_stop}
use Rattle.dcx_lp_solve.proofs.Ends.{run_solves, run_stops as program_stops}
use Rattle.dcx_graph.specs.declared.reading.AnswerStop.{AnswerStop}
use Rattle.dcx_graph.specs.Program.{Program}
use Rattle.dcx_graph.specs.Answers.{rows_of, IsRead, StopsReading}
use Rattle.dcx_cache.specs.Programs.{IsScaledAt}
use Rattle.dcx_cache.specs.Answers.{IsAnswerOf, Stops}
use Rattle.dcx_cache.specs.Stops.{reading_stop}
use Rattle.dcx_cache.proofs.Stopped.{run_stops, reading_stops}

module _ (p : Problem) (setting : Pairs) (limit : ℕ) (q : Program Frac) (i : tab.Program) (at : IsScaledAt p setting q i) where
  pub rows_solved : (s : Solved) → IsRunSolved limit i s → IsSolved limit (rows_of q) s
  rows_solved s h = run_solves limit (rows_of q) i at.made s h

  pub answers : (s : Solved) (a : Answer) → IsRunSolved limit i s → IsRead p q.kinds s.answer a → IsAnswerOf p setting limit q s a
  answers s a h read = record { fits = at.fits; program = at.gives; known = at.known; is_solved = rows_solved s h; read = read }

  -- what stops the run
  pub scaled_stops : (e : SolveStop) → RunStops limit i e → Stops p setting limit (run_stop e)
  scaled_stops e h = run_stops p setting limit at.fits q at.gives e (program_stops limit (rows_of q) i at.made e h)

  -- or reading its answer
  pub scaled_reading_stops : (s : Solved) → IsRunSolved limit i s → (e : AnswerStop) → StopsReading p s.answer e → Stops p setting limit (reading_stop e)
  scaled_reading_stops s h e k = reading_stops p setting limit at.fits q at.gives s (rows_solved s h) e k
