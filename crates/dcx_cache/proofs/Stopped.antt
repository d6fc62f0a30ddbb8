-- What stops a part of the way stops the setting.
use Rattle.std.proofs.Common.{ℕ, Ok, Err, refl}
use Rattle.dcx_frac.specs.declared.fraction.Frac.{Frac}
use Rattle.dcx_point.specs.Pairs.{Pairs}
use Rattle.dcx_tree.specs.declared.problem.Problem.{Problem}
use Rattle.dcx_answer.specs.declared.stop.Stop.{Stop}
use Rattle.dcx_answer.specs.declared.stop.Stop.TheVariants as why
use Rattle.dcx_fit.specs.Fit.{FitsParameters, IsFirstMisfit}
use Rattle.dcx_std.specs.declared.stop.RowStop.{RowStop}
use Rattle.dcx_std.specs.IntegerRows.{IsStopOf}
use Rattle.dcx_lp_solve.specs.declared.solving.Solved.{Solved}
use Rattle.dcx_lp_solve.specs.declared.stop.SolveStop.{SolveStop}
use Rattle.dcx_lp_solve.specs.declared.stop.SolveStop.TheVariants as solves
use Rattle.dcx_lp_solve.specs.Solved.{IsSolved, rows_stop, Stops as RowsStop}
use Rattle.dcx_lp_solve.proofs.Ends.{row_stops}
use Rattle.dcx_graph.specs.declared.stop.ReduceStop.{ReduceStop}
use Rattle.dcx_graph.specs.declared.stop.ReduceStop.TheVariants as reduces
use Rattle.dcx_graph.specs.declared.reading.AnswerStop.{AnswerStop}
use Rattle.dcx_graph.specs.declared.reading.AnswerStop.TheVariants as reads
use Rattle.dcx_graph.specs.Program.{Program}
use Rattle.dcx_graph.specs.Reduced.{Reduction}
use Rattle.dcx_graph.specs.Reducing.{OrMemory}
use Rattle.dcx_graph.specs.Answers.{rows_of, StopsReading}
use Rattle.dcx_cache.specs.Programs.{SessionGives, ProgramStops}
use Rattle.dcx_cache.specs.Answers.{at_program, at_run, at_reading, Stops}
use Rattle.dcx_lp_solve.specs.Stops.{run_stop}
use Rattle.dcx_cache.specs.Stops.{program_stop, reading_stop}

-- ---- the program
module _ (p : Problem) (setting : Pairs) where
  -- the first misfit stops it
  pub misfit_stops : (e : Stop) → IsFirstMisfit p.parameters setting e → ProgramStops p setting e
  misfit_stops (why.UnknownParam name) h = h
  misfit_stops (why.MissingParam name) h = h
  misfit_stops (why.ParamShape name declared given) h = h
  misfit_stops (why.ParamSign name entry value) h = h
  misfit_stops (why.TooLarge rows columns) h = absurd h
  misfit_stops (why.ZeroDivisor node entry) h = absurd h
  misfit_stops (why.Wide site) h = absurd h
  misfit_stops (why.PivotLimit count) h = absurd h
  misfit_stops why.Memory h = tt

  pub program_stops : FitsParameters p.parameters setting → (e : ReduceStop) → OrMemory {A = Reduction Frac} (Err e) (λ x. x.program) (SessionGives p setting) → ProgramStops p setting (program_stop e)
  program_stops fits (reduces.TooLarge rows columns) h = record { fits = fits; stops = h }
  program_stops fits (reduces.ZeroDivisor node entry) h = record { fits = fits; stops = h }
  program_stops fits (reduces.Wide site) h = record { fits = fits; stops = h }
  program_stops fits reduces.Memory h = tt

-- ---- the setting
module _ (p : Problem) (setting : Pairs) (limit : ℕ) where
  -- what stops the program
  pub setting_stops : (e : Stop) → ProgramStops p setting e → Stops p setting limit e
  setting_stops (why.UnknownParam name) h = h
  setting_stops (why.MissingParam name) h = h
  setting_stops (why.ParamShape name declared given) h = h
  setting_stops (why.ParamSign name entry value) h = h
  setting_stops (why.TooLarge rows columns) h = record { fits = h.fits; stops = at_program (reduces.TooLarge rows columns) h.stops refl }
  setting_stops (why.ZeroDivisor node entry) h = record { fits = h.fits; stops = at_program (reduces.ZeroDivisor node entry) h.stops refl }
  setting_stops (why.Wide site) h = record { fits = h.fits; stops = at_program (reduces.Wide site) h.stops refl }
  setting_stops (why.PivotLimit count) h = absurd h
  setting_stops why.Memory h = tt

  module _ (fits : FitsParameters p.parameters setting) where
    module _ (q : Program Frac) (g : SessionGives p setting (Ok q)) where
      pub run_stops : (e : SolveStop) → RowsStop limit (rows_of q) e → Stops p setting limit (run_stop e)
      run_stops (solves.TooLarge rows columns) h = record { fits = fits; stops = at_run q g (solves.TooLarge rows columns) (λ d. cc) h refl }
      run_stops (solves.Wide site) h = record { fits = fits; stops = at_run q g (solves.Wide site) (λ d. cc) h refl }
      run_stops (solves.PivotLimit count) h = record { fits = fits; stops = at_run q g (solves.PivotLimit count) (λ d. cc) h refl }
      run_stops solves.Memory h = tt

      -- also before it, where the rows have no scaled program
      pub rows_stops : (e : RowStop) → IsStopOf (rows_of q) e → Stops p setting limit (run_stop (rows_stop e))
      rows_stops e h = run_stops (rows_stop e) (row_stops limit (rows_of q) e h)

      pub reading_stops : (s : Solved) → IsSolved limit (rows_of q) s → (e : AnswerStop) → StopsReading p s.answer e → Stops p setting limit (reading_stop e)
      reading_stops s h (reads.Wide site) k = record { fits = fits; stops = at_reading q g s h (reads.Wide site) (λ d. cc) k refl }
      reading_stops s h reads.Memory k = tt
