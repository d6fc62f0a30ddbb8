-- Completeness: a setting that nothing stops has its answer, or memory is wanting.
use Rattle.std.specs.Prelude.{◌≡◌, ◌⊎◌, ℕ, List, Ok}
use Rattle.std.specs.List.{AllZip}
use Rattle.dcx_frac.specs.declared.fraction.Frac.{Frac}
use Rattle.dcx_point.specs.Pairs.{Pairs}
use Rattle.dcx_tree.specs.declared.problem.Problem.{Problem}
use Rattle.dcx_fit.specs.Fit.{FitsParameters}
use Rattle.dcx_answer.specs.declared.answer.Answer.{Answer}
use Rattle.dcx_answer.specs.declared.site.Site.{Site}
use Rattle.dcx_answer.specs.declared.stop.Stop.TheVariants as why
use Rattle.dcx_answer.specs.declared.outcome.Outcome.{Outcome}
use Rattle.dcx_answer.specs.declared.outcome.OutcomeEnd.TheVariants as the
use Rattle.dcx_lp_solve.specs.declared.solving.Solved.{Solved}
use Rattle.dcx_lp_solve.specs.declared.stop.SolveStop.{SolveStop}
use Rattle.dcx_lp_solve.specs.declared.stop.SolveStop.TheVariants as solves
use Rattle.dcx_lp_solve.specs.Solved.{IsSolved, Stops as RowsStop}
use Rattle.dcx_graph.specs.Program.{Program}
use Rattle.dcx_graph.specs.Answers.{rows_of, PassesAt}
use Rattle.dcx_cache.specs.Programs.{SessionGives}
use Rattle.dcx_outcomes.specs.Outcomes.{AreOutcomes}
use Rattle.dcx_outcomes.specs.Warm.{AreWarmOutcomes}

-- Nothing stops the setting. It fits: it names parameters of the problem alone, and gives each a value of its shape and sign. The problem
-- has a program there: few rows and columns, no divisor that is 0, and no operation that passes 128 bits. Its rows have a scaled program,
-- and the run on it comes to its end within the limit, with no pivot that passes. No multiplier passes.
pub record NothingStops (p : Problem) (limit : ℕ) (setting : Pairs) : Type 0 where
  pub fits : FitsParameters p.parameters setting
  pub program : Program Frac
  pub formed : SessionGives p setting (Ok program)
  pub solved : (stop : SolveStop) → RowsStop limit (rows_of program) stop → stop ≡ solves.Memory
  pub read : (s : Solved) → IsSolved limit (rows_of program) s → (site : Site) → ¬ PassesAt p s.answer site

-- the setting has its answer, or memory ran out there
abbrev pub HasAnswer : Outcome → Type 0
HasAnswer o = ((a : Answer) × (o.end ≡ the.Answer a)) ⊎ (o.end ≡ the.Stop why.Memory)

-- so it is wherever nothing stops
abbrev pub AreComplete : Problem → ℕ → List Pairs → List Outcome → Type 0
AreComplete p limit settings outcomes = AllZip (λ s o. NothingStops p limit s → HasAnswer o) settings outcomes

-- of all outcomes of a solve, warm or not
pub record OutcomesAreComplete : Type 0 where
  pub fresh : (p : Problem) (limit : ℕ) (settings : List Pairs) (outcomes : List Outcome) → AreOutcomes p limit settings outcomes → AreComplete p limit settings outcomes
  pub warm : (p : Problem) (limit : ℕ) (settings : List Pairs) (outcomes : List Outcome) (kept : ℕ) → AreWarmOutcomes p limit settings outcomes kept → AreComplete p limit settings outcomes
