-- The outcomes of settings at which a parameter's range is told.
use Rattle.std.specs.Prelude.{◌≡◌, ℕ, List, Option, Some, None, Result, Ok, Err}
use Rattle.dcx_frac.specs.declared.fraction.Frac.{Frac}
use Rattle.dcx_point.specs.Pairs.{Pairs}
use Rattle.dcx_tree.specs.declared.problem.Problem.{Problem}
use Rattle.dcx_answer.specs.declared.stop.Stop.{Stop}
use Rattle.dcx_linear.specs.declared.param_form.ParamForm.{ParamForm}
use Rattle.dcx_answer.specs.declared.not_ranged.NotRanged.{NotRanged}
use Rattle.dcx_answer.specs.declared.ranged.Ranged.{Ranged}
use Rattle.dcx_answer.specs.declared.range_stop.RangeStop.{RangeStop}
use Rattle.dcx_answer.specs.declared.range_outcome.RangeEnd.{RangeEnd}
use Rattle.dcx_answer.specs.declared.range_outcome.RangeEnd.TheVariants as the
use Rattle.dcx_answer.specs.declared.range_outcome.RangeOutcome.{RangeOutcome}
use Rattle.dcx_graph.specs.Program.{Program}
use Rattle.dcx_cache.specs.Programs.{IsMapOf, HasMap}
use Rattle.dcx_range.specs.Parameters.{IsRanged, IsFaultOf}
use Rattle.dcx_range.specs.Range.{RangeGives}
use Rattle.dcx_outcomes.specs.Asking.{AreAskedOutcomes}

-- ---- whether a parameter has a range
-- the program of a session with affine coefficients, if it has one
abbrev pub IsKeptProgram : Problem → Option (Program ParamForm) → Type 0
IsKeptProgram p (Some q) = IsMapOf p q
IsKeptProgram p None = ¬ HasMap p

-- the parameter of this name has a range: a session has a program with affine coefficients, and there it stands in no coefficient of an
-- unknown
pub record HasRange (p : Problem) (name : List ℕ) : Type 0 where
  pub map : Program ParamForm
  pub is_map : IsMapOf p map
  pub ranged : IsRanged p map name

-- this stands against it, and nothing before it
pub record LacksRange (p : Problem) (name : List ℕ) (fault : NotRanged) : Type 0 where
  pub program : Option (Program ParamForm)
  pub is_kept : IsKeptProgram p program
  pub is_fault : IsFaultOf p program name fault

-- whether it has one, or what stands against it
abbrev pub TellsRange : Problem → List ℕ → Result (Unit {0}) NotRanged → Type 0
TellsRange p name (Ok u) = HasRange p name
TellsRange p name (Err fault) = LacksRange p name fault

-- ---- one setting
-- the parameter has a range, and this is told of it for the program, or stops it
pub record TellsOf (name : List ℕ) (limit : ℕ) (p : Problem) (setting : Pairs) (program : Program Frac) (told : Result Ranged RangeStop) : Type 0 where
  pub range : HasRange p name
  pub gives : RangeGives p range.map program setting name limit told

-- how a setting ends: with what is told, or with what stops the program
abbrev pub range_end : RangeEnd → Result (Result Ranged RangeStop) Stop
range_end (the.Ranged ranged) = Ok (Ok ranged)
range_end (the.Range stop) = Ok (Err stop)
range_end (the.Stop stop) = Err stop

-- ---- all settings
-- one outcome for each, in order
abbrev pub AreRangeOutcomes : Problem → List ℕ → ℕ → List Pairs → List RangeOutcome → Type 0
AreRangeOutcomes p name limit settings outcomes = AreAskedOutcomes (TellsOf name limit) (λ (o : RangeOutcome) (e : Result (Result Ranged RangeStop) Stop). range_end o.end ≡ e)
    (λ (o : RangeOutcome). o.place) p settings outcomes
