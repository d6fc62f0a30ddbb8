-- The outcomes of settings at which a question is asked of a session's program.
use Rattle.std.specs.Prelude.{◌≡◌, List, Option, None, Result, Ok, Err, IfOk}
use Rattle.std.specs.List.{AllZip}
use Rattle.dcx_shape.specs.declared.place.Place.{Place}
use Rattle.dcx_frac.specs.declared.fraction.Frac.{Frac}
use Rattle.dcx_point.specs.Pairs.{Pairs}
use Rattle.dcx_tree.specs.declared.problem.Problem.{Problem}
use Rattle.dcx_tree.specs.Meaning.{IsFitting}
use Rattle.dcx_fit.specs.Fit.{FitsParameters}
use Rattle.dcx_answer.specs.declared.stop.Stop.{Stop}
use Rattle.dcx_answer.specs.declared.stop.Stop.TheVariants as why
use Rattle.dcx_graph.specs.Program.{Program}
use Rattle.dcx_cache.specs.Programs.{SessionGives, ProgramStops}
use Rattle.dcx_outcomes.specs.Outcomes.{stop_place}

-- ---- one setting
-- the setting fits, and the question has this answer for a session's program there; `Gives` says which answers it has
pub record IsAnswered {A : Type 0} (Gives : Problem → Pairs → Program Frac → A → Type 0) (p : Problem) (setting : Pairs) (answer : A) : Type 0 where
  pub fits : FitsParameters p.parameters setting
  pub program : Program Frac
  pub gives : SessionGives p setting (Ok program)
  pub answers : Gives p setting program answer

-- how a setting ends: with an answer, or with what stops the program
abbrev pub EndsAt : {A : Type 0} → (Problem → Pairs → Program Frac → A → Type 0) → Problem → Pairs → Result A Stop → Type 0
EndsAt Gives p setting (Ok answer) = IsAnswered Gives p setting answer
EndsAt Gives p setting (Err stop) = ProgramStops p setting stop

-- where the node stands in the script that what stops the program names
abbrev pub node_place : {A : Type 0} → Problem → Result A Stop → Option Place
node_place p (Ok answer) = None
node_place p (Err stop) = stop_place p stop

-- the outcome of a setting, which tells how it ends, as `Tells` says, and that place
pub record IsAskedOutcome {A O : Type 0} (Gives : Problem → Pairs → Program Frac → A → Type 0) (Tells : O → Result A Stop → Type 0) (place : O → Option Place) (p : Problem)
    (setting : Pairs) (o : O) : Type 0 where
  pub end : Result A Stop
  pub ends : EndsAt Gives p setting end
  pub tells : Tells o end
  pub placed : place o ≡ node_place p end

-- ---- all settings
-- one outcome for each, in order
abbrev pub AreAskedOutcomes : {A O : Type 0} → (Problem → Pairs → Program Frac → A → Type 0) → (O → Result A Stop → Type 0) → (O → Option Place) → Problem → List Pairs → List O
    → Type 0
AreAskedOutcomes Gives Tells place p settings outcomes = AllZip (IsAskedOutcome Gives Tells place p) settings outcomes

-- ---- right
-- the setting fits, and what is found there is right
pub record IsRightAt {F : Type 0} (p : Problem) (setting : Pairs) (Right : F → Type 0) (found : F) : Type 0 where
  pub fits : IsFitting p setting
  pub right : Right found

-- whatever is found at a setting is right there; the stop of a question or of a program finds nothing
abbrev pub FindsRight : {F E : Type 0} → Problem → Pairs → (F → Type 0) → Result (Result F E) Stop → Type 0
FindsRight p setting Right end = IfOk end (λ answer. IfOk answer (IsRightAt p setting Right))

-- ---- one
-- memory ran out at the setting; `memory` says so among the stops of the question
abbrev pub WantsMemory : {F E : Type 0} → E → Result (Result F E) Stop → Type 0
WantsMemory memory (Ok (Ok found)) = ⊥
WantsMemory memory (Ok (Err stop)) = stop ≡ memory
WantsMemory memory (Err stop) = stop ≡ why.Memory

-- what is found is the same, as `Same` says, or the same stops
abbrev pub IsSameEnd : {F E : Type 0} → (F → F → Type 0) → Result (Result F E) Stop → Result (Result F E) Stop → Type 0
IsSameEnd Same (Ok (Ok a)) (Ok (Ok b)) = Same a b
IsSameEnd Same (Ok (Err s)) (Ok (Err t)) = s ≡ t
IsSameEnd Same (Err s) (Err t) = s ≡ t
IsSameEnd Same _ _ = ⊥

-- two ends of a setting are one; want of memory is free
abbrev pub AreOneEnd : {F E : Type 0} → E → (F → F → Type 0) → Result (Result F E) Stop → Result (Result F E) Stop → Type 0
AreOneEnd memory Same x y = ¬ WantsMemory memory x → ¬ WantsMemory memory y → IsSameEnd Same x y
