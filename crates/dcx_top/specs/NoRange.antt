-- A script whose problem has no range for the parameter that a command asks for: it is refused.
use Rattle.std.specs.Prelude.{◌≡◌, ℕ, List, Some}
use Rattle.dcx_shape.specs.declared.place.Place.{Place}
use Rattle.dcx_tree.specs.declared.problem.Problem.{Problem}
use Rattle.dcx_declared.specs.Stands.{StandsAt}
use Rattle.dcx_answer.specs.declared.not_ranged.NotRanged.{NotRanged}
use Rattle.dcx_answer.specs.declared.not_ranged.NotRanged.TheVariants as faults
use Rattle.dcx_refusal.specs.declared.refusal.Carried.TheVariants as carried
use Rattle.dcx_refusal.specs.declared.refusal.Refusal.{Refusal}
use Rattle.dcx_refusal.specs.declared.refusal.RefusalSource.TheVariants.{Script}
use Rattle.dcx_refusal.specs.Made.{IsRefusedAs, file_start}
use Rattle.dcx_words.specs.Commands.{Command}
use Rattle.dcx_outcomes.specs.Ranges.{HasRange, LacksRange}
use Rattle.dcx_top.specs.Commands.{parameter_name}

-- where the refusal stands: at the parameter, or at the start of the script where the problem reaches none
abbrev pub IsPlaceOf : NotRanged → Problem → List ℕ → Place → Type 0
IsPlaceOf faults.Unknown p name place = place ≡ file_start
IsPlaceOf faults.Shape p name place = StandsAt p name place
IsPlaceOf faults.Map p name place = StandsAt p name place
IsPlaceOf faults.Coefficient p name place = StandsAt p name place

-- ---- the refusal
-- the script is refused for what stands first against a range of the parameter
pub record IsRefusedForRange (p : Problem) (name : List ℕ) (r : Refusal) : Type 0 where
  pub fault : NotRanged
  pub lacks : LacksRange p name fault
  pub place : Place
  pub stands : IsPlaceOf fault p name place
  pub refusal : IsRefusedAs Script 35 place (carried.NotRanged fault) r

-- where the command asks for the range of a parameter, the parameter has one
abbrev pub AllowsRange : Command → Problem → Type 0
AllowsRange command p = (name : List ℕ) → parameter_name command ≡ Some name → HasRange p name
