-- Variables whose entries are to be whole: which commands take a problem that has one, and how the others refuse it.
use Rattle.std.specs.Prelude.{⊤, true, false}
use Rattle.dcx_shape.specs.declared.place.Place.{Place}
use Rattle.dcx_tree.specs.declared.problem.Problem.{Problem}
use Rattle.dcx_declared.specs.Whole.{HasNoWhole, StandsFirstWhole}
use Rattle.dcx_refusal.specs.declared.refusal.Carried.TheVariants.{Nothing}
use Rattle.dcx_refusal.specs.declared.refusal.Refusal.{Refusal}
use Rattle.dcx_refusal.specs.declared.refusal.RefusalSource.TheVariants.{Script}
use Rattle.dcx_refusal.specs.Made.{IsRefusedAs}
use Rattle.dcx_words.specs.Commands.{Command, check, solve, resolve, certificate, certify, migrate, trial, iis, range}

-- the script is refused for the first variable that is to be whole, where it stands
pub record IsRefusedForWhole (p : Problem) (r : Refusal) : Type 0 where
  pub place : Place
  pub stands : StandsFirstWhole p place
  pub refusal : IsRefusedAs Script 34 place Nothing r

-- the command refuses such a problem: it solves from what earlier settings left, tells or checks what shows answers, filters constraints,
-- tells the range of a parameter, or tries
abbrev pub RefusesWhole : Command → Type 0
RefusesWhole (check script) = ⊥
RefusesWhole (solve script limit) = ⊥
RefusesWhole (resolve script settings limit false) = ⊥
RefusesWhole (resolve script settings limit true) = ⊤
RefusesWhole (certificate script settings limit) = ⊤
RefusesWhole (certify script settings cert) = ⊤
RefusesWhole (migrate script settings cert) = ⊤
RefusesWhole (trial size limit) = ⊤
RefusesWhole (iis script settings limit) = ⊤
RefusesWhole (range script settings parameter limit) = ⊤

-- the command takes the problem
abbrev pub Takes : Command → Problem → Type 0
Takes command p = RefusesWhole command → HasNoWhole p
