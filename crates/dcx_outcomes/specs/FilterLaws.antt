-- What holds of all outcomes of settings at which constraints are filtered.
use Rattle.std.specs.Prelude.{◌≡◌, ℕ, List}
use Rattle.std.specs.List.{AllZip}
use Rattle.dcx_point.specs.Pairs.{Pairs}
use Rattle.dcx_tree.specs.declared.problem.Problem.{Problem}
use Rattle.dcx_tree.specs.Meaning.{IsAccepted, setting_of}
use Rattle.dcx_answer.specs.declared.filter_stop.FilterStop.TheVariants as filter
use Rattle.dcx_answer.specs.declared.filter_outcome.FilterOutcome.{FilterOutcome}
use Rattle.dcx_right.specs.Filters.{IsRightFor}
use Rattle.dcx_outcomes.specs.Asking.{FindsRight, WantsMemory}
use Rattle.dcx_outcomes.specs.Filters.{filter_end, AreFilterOutcomes}

-- whatever is found is right for the problem at its setting, which fits
abbrev pub AreRightFilters : Problem → List Pairs → List FilterOutcome → Type 0
AreRightFilters p settings outcomes = AllZip (λ s o. FindsRight p s (IsRightFor p (setting_of p s)) (filter_end o.end)) settings outcomes

-- where the rules accept the problem
abbrev pub FiltersAreRight : Type 0
FiltersAreRight = (p : Problem) (limit : ℕ) (settings : List Pairs) (outcomes : List FilterOutcome) → IsAccepted p → AreFilterOutcomes p limit settings outcomes → AreRightFilters p settings outcomes

-- memory did not run out at the setting
abbrev pub HadMemory : FilterOutcome → Type 0
HadMemory o = ¬ WantsMemory filter.Memory (filter_end o.end)

-- the outcomes are the same one after the other, with all their numbers; want of memory is free
abbrev pub AreAlikeFilters : List FilterOutcome → List FilterOutcome → Type 0
AreAlikeFilters os qs = AllZip (λ o q. HadMemory o → HadMemory q → o ≡ q) os qs

-- settings of an accepted problem have one list of outcomes
abbrev pub FiltersAreOne : Type 0
FiltersAreOne = (p : Problem) (limit : ℕ) (settings : List Pairs) (os qs : List FilterOutcome) → IsAccepted p → AreFilterOutcomes p limit settings os
    → AreFilterOutcomes p limit settings qs → AreAlikeFilters os qs
