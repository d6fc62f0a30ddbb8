-- The outcomes of settings at which constraints are filtered.
use Rattle.std.specs.Prelude.{◌≡◌, ℕ, List, Result, Ok, Err, IfOk, IfErr}
use Rattle.dcx_frac.specs.declared.fraction.Frac.{Frac}
use Rattle.dcx_point.specs.Pairs.{Pairs}
use Rattle.dcx_tree.specs.declared.problem.Problem.{Problem}
use Rattle.dcx_tree.specs.Meaning.{setting_of}
use Rattle.dcx_answer.specs.declared.filter_stop.FilterStop.{FilterStop}
use Rattle.dcx_answer.specs.declared.filtered.Filtered.{Filtered}
use Rattle.dcx_answer.specs.declared.stop.Stop.{Stop}
use Rattle.dcx_answer.specs.declared.filter_outcome.FilterEnd.{FilterEnd}
use Rattle.dcx_answer.specs.declared.filter_outcome.FilterEnd.TheVariants as the
use Rattle.dcx_answer.specs.declared.filter_outcome.FilterOutcome.{FilterOutcome}
use Rattle.dcx_graph.specs.Program.{Program}
use Rattle.dcx_iis.specs.Steps.{StopsFilter}
use Rattle.dcx_iis.specs.Found.{IsFound}
use Rattle.dcx_outcomes.specs.Asking.{AreAskedOutcomes}

-- ---- one setting
-- the steps over the program find this, or this stops them
pub record FilterGives (limit : ℕ) (p : Problem) (setting : Pairs) (program : Program Frac) (r : Result Filtered FilterStop) : Type 0 where
  pub found : IfOk r (IsFound p program limit)
  pub stops : IfErr r (StopsFilter p (setting_of p setting) program limit)

-- how a setting ends: with what the filter gives, or with what stops the program
abbrev pub filter_end : FilterEnd → Result (Result Filtered FilterStop) Stop
filter_end (the.Filtered found) = Ok (Ok found)
filter_end (the.Filter stop) = Ok (Err stop)
filter_end (the.Stop stop) = Err stop

-- ---- all settings
-- one outcome for each, in order
abbrev pub AreFilterOutcomes : Problem → ℕ → List Pairs → List FilterOutcome → Type 0
AreFilterOutcomes p limit settings outcomes = AreAskedOutcomes (FilterGives limit) (λ (o : FilterOutcome) (e : Result (Result Filtered FilterStop) Stop). filter_end o.end ≡ e)
    (λ (o : FilterOutcome). o.place) p settings outcomes
