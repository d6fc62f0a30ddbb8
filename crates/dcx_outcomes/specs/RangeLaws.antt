-- What holds of all outcomes of settings at which a parameter's range is told.
use Rattle.std.specs.Prelude.{◌≡◌, ℕ, List}
use Rattle.std.specs.List.{AllZip}
use Rattle.dcx_point.specs.Pairs.{Pairs}
use Rattle.dcx_tree.specs.declared.problem.Problem.{Problem}
use Rattle.dcx_tree.specs.Meaning.{setting_of}
use Rattle.dcx_answer.specs.declared.not_ranged.NotRanged.{NotRanged}
use Rattle.dcx_answer.specs.declared.range_stop.RangeStop.TheVariants as range
use Rattle.dcx_answer.specs.declared.range_outcome.RangeOutcome.{RangeOutcome}
use Rattle.dcx_right.specs.Ranges.{HoldsOn}
use Rattle.dcx_outcomes.specs.Asking.{FindsRight, WantsMemory}
use Rattle.dcx_outcomes.specs.Ranges.{HasRange, LacksRange, range_end, AreRangeOutcomes}

-- ---- whether a parameter has a range
-- one thing stands against it, and nothing does where it has one
pub record RangeIsTold : Type 0 where
  pub once : (p : Problem) (name : List ℕ) (f g : NotRanged) → LacksRange p name f → LacksRange p name g → f ≡ g
  pub never_both : (p : Problem) (name : List ℕ) (f : NotRanged) → HasRange p name → LacksRange p name f → ⊥

-- ---- all settings
-- whatever is told holds on the span at its setting, which fits
abbrev pub AreRightRanges : Problem → List ℕ → List Pairs → List RangeOutcome → Type 0
AreRightRanges p name settings outcomes = AllZip (λ s o. FindsRight p s (HoldsOn p (setting_of p s) name) (range_end o.end)) settings outcomes

abbrev pub RangesAreRight : Type 0
RangesAreRight = (p : Problem) (name : List ℕ) (limit : ℕ) (settings : List Pairs) (outcomes : List RangeOutcome) → AreRangeOutcomes p name limit settings outcomes
    → AreRightRanges p name settings outcomes

-- memory did not run out at the setting
abbrev pub HadMemory : RangeOutcome → Type 0
HadMemory o = ¬ WantsMemory range.Memory (range_end o.end)

-- the outcomes are the same one after the other, with all their numbers; want of memory is free
abbrev pub AreAlikeRanges : List RangeOutcome → List RangeOutcome → Type 0
AreAlikeRanges os qs = AllZip (λ o q. HadMemory o → HadMemory q → o ≡ q) os qs

-- settings have one list of outcomes
abbrev pub RangesAreOne : Type 0
RangesAreOne = (p : Problem) (name : List ℕ) (limit : ℕ) (settings : List Pairs) (os qs : List RangeOutcome) → AreRangeOutcomes p name limit settings os → AreRangeOutcomes p name limit settings qs
    → AreAlikeRanges os qs
