-- A stop names nodes of the problem.
use Rattle.std.proofs.Common.{◌≡◌, ℕ, Err, sym, subst}
use Rattle.dcx_frac.specs.declared.fraction.Frac.{Frac}
use Rattle.dcx_frac.specs.declared.fraction.Passes.{Passes}
use Rattle.dcx_point.specs.Pairs.{Pairs}
use Rattle.dcx_tree.specs.declared.problem.Problem.{Problem}
use Rattle.dcx_answer.specs.declared.site.Site.{Site}
use Rattle.dcx_answer.specs.declared.site.Site.TheVariants as sites
use Rattle.dcx_answer.specs.declared.stop.Stop.{Stop}
use Rattle.dcx_answer.specs.declared.stop.Stop.TheVariants as why
use Rattle.dcx_lp_solve.specs.declared.stop.SolveStop.{SolveStop}
use Rattle.dcx_lp_solve.specs.declared.stop.SolveStop.TheVariants as solves
use Rattle.dcx_lp_solve.specs.Solved.{Stops as RowsStop}
use Rattle.dcx_lp_answer.specs.declared.answer.LpAnswer.{LpAnswer}
use Rattle.dcx_graph.specs.declared.stop.ReduceStop.{ReduceStop}
use Rattle.dcx_graph.specs.declared.stop.ReduceStop.TheVariants as reduces
use Rattle.dcx_graph.specs.declared.reading.AnswerStop.{AnswerStop}
use Rattle.dcx_graph.specs.declared.reading.AnswerStop.TheVariants as reads
use Rattle.dcx_graph.specs.Program.{Program}
use Rattle.dcx_graph.specs.Answers.{rows_of, StopsReading}
use Rattle.dcx_cache.specs.Programs.{SessionGives, mapped, anew, ProgramStops}
use Rattle.dcx_lp_solve.specs.Stops.{run_stop}
use Rattle.dcx_cache.specs.Stops.{program_stop, reading_stop}
use Rattle.dcx_cache.specs.Answers.{StopsAt, at_program, at_run, at_reading, Stops}
use Rattle.dcx_outcomes.specs.Outcomes.{IsNodeSite, NamesNodes}

module _ (p : Problem) (setting : Pairs) (limit : ℕ) where
  -- ---- stops of the program
  in_program : (e : ReduceStop) → SessionGives p setting (Err e) → NamesNodes p (program_stop e)
  in_program (reduces.TooLarge rows columns) g = tt
  in_program (reduces.ZeroDivisor node entry) (mapped q m f) = absurd f
  in_program (reduces.ZeroDivisor node entry) (anew n h) = h.first.within
  in_program (reduces.Wide (sites.Node node entry passes)) (mapped q m f) = absurd f
  in_program (reduces.Wide (sites.Node node entry passes)) (anew n h) = h.first.within
  in_program (reduces.Wide (sites.Row row passes)) g = tt
  in_program (reduces.Wide (sites.Map row passes)) g = tt
  in_program (reduces.Wide (sites.Pivot pivots row column)) g = tt
  in_program (reduces.Wide (sites.Answer row passes)) g = tt
  in_program reduces.Memory g = tt

  -- ---- stops of the rows
  in_run : (q : Program Frac) (e : SolveStop) → RowsStop limit (rows_of q) e → NamesNodes p (run_stop e)
  in_run q (solves.TooLarge rows columns) h = tt
  in_run q (solves.Wide (sites.Node node entry passes)) h = absurd h
  in_run q (solves.Wide (sites.Row row passes)) h = tt
  in_run q (solves.Wide (sites.Map row passes)) h = tt
  in_run q (solves.Wide (sites.Pivot pivots row column)) h = tt
  in_run q (solves.Wide (sites.Answer row passes)) h = tt
  in_run q (solves.PivotLimit count) h = tt
  in_run q solves.Memory h = tt

  -- ---- stops of reading
  at_answer : (site : Site) (row : ℕ) (passes : Passes) → site ≡ sites.Answer row passes → IsNodeSite p site
  at_answer site row passes e = subst (IsNodeSite p) (sym e) tt

  in_reading : (a : LpAnswer) (e : AnswerStop) → StopsReading p a e → NamesNodes p (reading_stop e)
  in_reading a (reads.Wide site) h = at_answer site h.row h.passes h.here
  in_reading a reads.Memory h = tt

  -- ---- all stops
  in_parts : (e : Stop) → StopsAt p setting limit e → NamesNodes p e
  in_parts e (at_program a g is) = subst (NamesNodes p) (sym is) (in_program a g)
  in_parts e (at_run q g a n h is) = subst (NamesNodes p) (sym is) (in_run q a h)
  in_parts e (at_reading q g s h a n k is) = subst (NamesNodes p) (sym is) (in_reading s.answer a k)

  pub names_nodes : (e : Stop) → Stops p setting limit e → NamesNodes p e
  names_nodes (why.UnknownParam name) h = tt
  names_nodes (why.MissingParam name) h = tt
  names_nodes (why.ParamShape name declared given) h = tt
  names_nodes (why.ParamSign name entry value) h = tt
  names_nodes (why.TooLarge rows columns) h = tt
  names_nodes (why.ZeroDivisor node entry) h = in_parts (why.ZeroDivisor node entry) h.stops
  names_nodes (why.Wide site) h = in_parts (why.Wide site) h.stops
  names_nodes (why.PivotLimit count) h = tt
  names_nodes why.Memory h = tt

-- ---- stops of the program alone
pub program_names : (p : Problem) (setting : Pairs) (e : Stop) → ProgramStops p setting e → NamesNodes p e
program_names p setting (why.UnknownParam name) h = tt
program_names p setting (why.MissingParam name) h = tt
program_names p setting (why.ParamShape name declared given) h = tt
program_names p setting (why.ParamSign name entry value) h = tt
program_names p setting (why.TooLarge rows columns) h = tt
program_names p setting (why.ZeroDivisor node entry) h = in_program p setting 0 (reduces.ZeroDivisor node entry) h.stops
program_names p setting (why.Wide site) h = in_program p setting 0 (reduces.Wide site) h.stops
program_names p setting (why.PivotLimit count) h = absurd h
program_names p setting why.Memory h = tt
