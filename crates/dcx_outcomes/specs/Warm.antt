-- The outcomes of settings from what a session keeps: each from the columns that the settings before it left.
use Rattle.std.specs.Prelude.{◌≡◌, ◌⊎◌, ⊤, ℕ, ◌+◌, cond, Bool, true, false, List, [], ◌∷◌, Option, None, Some, Result, Ok, Err, count_by}
use Rattle.dcx_point.specs.Pairs.{Pairs}
use Rattle.dcx_tree.specs.declared.problem.Problem.{Problem}
use Rattle.dcx_answer.specs.declared.answer.Answer.{Answer}
use Rattle.dcx_answer.specs.declared.stop.Stop.{Stop}
use Rattle.dcx_answer.specs.declared.outcome.Outcome.{Outcome}
use Rattle.dcx_cache.specs.declared.rewarming.Warmed.{Warmed}
use Rattle.dcx_cache.specs.Answers.{Answers}
use Rattle.dcx_cache.specs.Warm.{WarmAnswers, WarmAnswersAll}
use Rattle.dcx_declared.specs.Whole.{HasNoWhole, HasWhole}
use Rattle.dcx_outcomes.specs.Outcomes.{solved_end, end_place, AreOutcomes}
use Rattle.dcx_outcomes.specs.Wholes.{AreWholeOutcomes}

-- ---- one setting
-- the answer, or the stop
abbrev pub end_in : Result Warmed Stop → Result Answer Stop
end_in (Ok w) = Ok w.answer
end_in (Err stop) = Err stop

-- whether it is answered from the columns that were kept
abbrev pub is_kept : Result Warmed Stop → Bool
is_kept (Ok w) = w.kept
is_kept (Err stop) = false

-- the outcome tells how a setting ends, with the place of the node that a stop names
pub record Tells (p : Problem) (r : Result Warmed Stop) (o : Outcome) : Type 0 where
  pub end : o.end ≡ solved_end (end_in r)
  pub placed : o.place ≡ end_place p o.end

-- ---- all settings
-- one outcome for each end, in order
abbrev pub AreTold : Problem → List (Result Warmed Stop) → List Outcome → Type 0
AreTold p [] [] = ⊤
AreTold p (r ∷ rs) (o ∷ os) = Tells p r o × AreTold p rs os
AreTold p [] (o ∷ os) = ⊥
AreTold p (r ∷ rs) [] = ⊥

-- A session that has no columns yet is asked at the settings, one after the other: each ends as `solve_warm` answers there, from the
-- columns that the settings before it left. The outcomes tell how they end, and so many settings are answered from kept columns.
pub record AreWarmOutcomes (p : Problem) (limit : ℕ) (settings : List Pairs) (outcomes : List Outcome) (kept : ℕ) : Type 0 where
  pub ends : List (Result Warmed Stop)
  pub answers : WarmAnswersAll p limit None settings ends
  pub told : AreTold p ends outcomes
  pub count : kept ≡ count_by is_kept ends

-- the outcomes of a solve at each setting, warm or not; the warm ones are counted
abbrev pub AreSolved : Bool → Problem → ℕ → List Pairs → List Outcome → Option ℕ → Type 0
AreSolved false p limit settings outcomes warm = AreOutcomes p limit settings outcomes × (warm ≡ None)
AreSolved true p limit settings outcomes warm = (n : ℕ) × AreWarmOutcomes p limit settings outcomes n × (warm ≡ Some n)

-- those of a problem: where a variable is to be whole, they are those of branch and bound, unless they are to be warm
abbrev pub AreFound : Bool → Problem → ℕ → List Pairs → List Outcome → Option ℕ → Type 0
AreFound false p limit settings outcomes warm =
    (HasNoWhole p × AreSolved false p limit settings outcomes warm) ⊎ (HasWhole p × AreWholeOutcomes p limit settings outcomes × (warm ≡ None))
AreFound true p limit settings outcomes warm = AreSolved true p limit settings outcomes warm

-- ---- parts of the way
-- how a session ends at a setting, warm or not, from what it keeps before
abbrev pub EndsFrom : Bool → Problem → ℕ → Pairs → Option (List ℕ) → Result Warmed Stop → Option (List ℕ) → Type 0
EndsFrom false p limit setting before r after = Answers p setting limit (end_in r) × (is_kept r ≡ false)
EndsFrom true p limit setting before r after = WarmAnswers p setting limit before r after

-- the outcome of a setting, from the columns that are kept before it, and how many settings are answered from such ones before it and with it
pub record IsToldFrom (warm : Bool) (p : Problem) (limit : ℕ) (setting : Pairs) (before : Option (List ℕ) × ℕ) (o : Outcome) (after : Option (List ℕ) × ℕ) : Type 0 where
  pub end : Result Warmed Stop
  pub ends : EndsFrom warm p limit setting before.0 end after.0
  pub tells : Tells p end o
  pub count : after.1 ≡ before.1 + cond (is_kept end) 1 0

-- the count, where it is wanted
abbrev pub counted_where : Bool → ℕ → Option ℕ
counted_where false n = None
counted_where true n = Some n
