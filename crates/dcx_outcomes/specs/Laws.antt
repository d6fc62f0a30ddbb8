-- What holds of all outcomes.
use Rattle.std.specs.Prelude.{◌≡◌, ◌≢◌, ⊤, ℕ, List, [], ◌∷◌, All, Option, Some, None}
use Rattle.std.specs.List.{AllZip}
use Rattle.dcx_point.specs.Pairs.{Pairs}
use Rattle.dcx_tree.specs.declared.problem.Problem.{Problem}
use Rattle.dcx_tree.specs.Meaning.{IsAccepted}
use Rattle.dcx_answer.specs.declared.stop.Stop.TheVariants as why
use Rattle.dcx_answer.specs.declared.outcome.Outcome.{Outcome}
use Rattle.dcx_answer.specs.declared.outcome.OutcomeEnd.{OutcomeEnd}
use Rattle.dcx_answer.specs.declared.outcome.OutcomeEnd.TheVariants as the
use Rattle.dcx_answer.specs.declared.whole_answer.BranchStop.TheVariants as branch
use Rattle.dcx_answer.specs.declared.whole_answer.WholeAnswer.{WholeAnswer}
use Rattle.dcx_answer.specs.declared.whole_answer.WholeAnswer.TheVariants.{Optimal, Infeasible}
use Rattle.dcx_cache.specs.Laws.{Agree}
use Rattle.dcx_outcomes.specs.Outcomes.{AreOutcomes}
use Rattle.dcx_outcomes.specs.Wholes.{AreWholeOutcomes}
use Rattle.dcx_outcomes.specs.Right.{AreRight}
use Rattle.dcx_outcomes.specs.Warm.{AreWarmOutcomes}

-- ---- right
-- each answer among the outcomes of an accepted problem is right
abbrev pub OutcomesAreRight : Type 0
OutcomesAreRight = (p : Problem) (limit : ℕ) (settings : List Pairs) (outcomes : List Outcome) → IsAccepted p → AreOutcomes p limit settings outcomes → AreRight p settings outcomes

-- so is each whole answer
abbrev pub WholesAreRight : Type 0
WholesAreRight = (p : Problem) (limit : ℕ) (settings : List Pairs) (outcomes : List Outcome) → IsAccepted p → AreWholeOutcomes p limit settings outcomes → AreRight p settings outcomes

-- and each answer among warm outcomes
abbrev pub WarmOutcomesAreRight : Type 0
WarmOutcomesAreRight = (p : Problem) (limit : ℕ) (settings : List Pairs) (outcomes : List Outcome) (kept : ℕ) → IsAccepted p → AreWarmOutcomes p limit settings outcomes kept
    → AreRight p settings outcomes

-- ---- one
-- the same answer with as many nodes, but for its tree
abbrev pub IsSameWhole : WholeAnswer → WholeAnswer → Type 0
IsSameWhole (Optimal value point tree nodes) (Optimal other place shown count) = (value ≡ other) × (point ≡ place) × (nodes ≡ count)
IsSameWhole (Optimal value point tree nodes) (Infeasible shown count) = ⊥
IsSameWhole (Infeasible tree nodes) (Optimal other place shown count) = ⊥
IsSameWhole (Infeasible tree nodes) (Infeasible shown count) = nodes ≡ count

-- the same answer, or the same stop, but for the tree of a whole answer
abbrev pub IsSameEnd : OutcomeEnd → OutcomeEnd → Type 0
IsSameEnd (the.Answer a) (the.Answer b) = a ≡ b
IsSameEnd (the.Whole a) (the.Whole b) = IsSameWhole a b
IsSameEnd (the.Branch s) (the.Branch t) = s ≡ t
IsSameEnd (the.Stop s) (the.Stop t) = s ≡ t
IsSameEnd _ _ = ⊥

-- the same outcome, but for such a tree
pub record IsSameOutcome (o q : Outcome) : Type 0 where
  pub end : IsSameEnd o.end q.end
  pub place : o.place ≡ q.place

-- memory ran out at the setting
abbrev pub WantsMemory : OutcomeEnd → Type 0
WantsMemory (the.Answer a) = ⊥
WantsMemory (the.Whole a) = ⊥
WantsMemory (the.Branch stop) = stop ≡ branch.Memory
WantsMemory (the.Stop stop) = stop ≡ why.Memory

abbrev pub HadMemory : Outcome → Type 0
HadMemory o = ¬ WantsMemory o.end

-- the outcomes are the same one after the other, with all their numbers, but for trees; want of memory is free
abbrev pub AreAlike : List Outcome → List Outcome → Type 0
AreAlike os qs = AllZip (λ o q. HadMemory o → HadMemory q → IsSameOutcome o q) os qs

-- settings of an accepted problem have one list of outcomes
abbrev pub OutcomesAreOne : Type 0
OutcomesAreOne = (p : Problem) (limit : ℕ) (settings : List Pairs) (os qs : List Outcome) → IsAccepted p → AreOutcomes p limit settings os → AreOutcomes p limit settings qs → AreAlike os qs

-- and one list of whole ones
abbrev pub WholesAreOne : Type 0
WholesAreOne = (p : Problem) (limit : ℕ) (settings : List Pairs) (os qs : List Outcome) → AreWholeOutcomes p limit settings os → AreWholeOutcomes p limit settings qs → AreAlike os qs

-- ---- warm outcomes
-- beside the end of a fresh solve with the same limit: an answer is of one kind with an answer there, with one value; a setting that is
-- answered there isn't stopped, and a stop is the one there, want of memory aside
abbrev pub AgreesWithFresh : OutcomeEnd → OutcomeEnd → Type 0
AgreesWithFresh (the.Answer a) (the.Answer b) = Agree a b
AgreesWithFresh (the.Answer a) (the.Stop stop) = ⊤
AgreesWithFresh (the.Stop stop) (the.Answer b) = stop ≡ why.Memory
AgreesWithFresh (the.Stop stop) (the.Stop other) = stop ≢ why.Memory → other ≢ why.Memory → stop ≡ other
AgreesWithFresh _ _ = ⊥

-- setting by setting
abbrev pub WarmOutcomesAgree : Type 0
WarmOutcomesAgree = (p : Problem) (limit : ℕ) (settings : List Pairs) (os : List Outcome) (kept : ℕ) (qs : List Outcome) → IsAccepted p → AreWarmOutcomes p limit settings os kept
    → AreOutcomes p limit settings qs
    → AllZip (λ o q. AgreesWithFresh o.end q.end) os qs

-- they are the same one after the other, until memory runs out at a setting: from there on other columns may be kept
abbrev pub AreAlikeWarm : List Outcome → List Outcome → Type 0
AreAlikeWarm [] [] = ⊤
AreAlikeWarm (o ∷ os) (q ∷ qs) = HadMemory o → HadMemory q → IsSameOutcome o q × AreAlikeWarm os qs
AreAlikeWarm [] (q ∷ qs) = ⊥
AreAlikeWarm (o ∷ os) [] = ⊥

-- and so is how many are answered from kept columns, where memory ran out nowhere
pub record AreOneWarm (os : List Outcome) (m : ℕ) (qs : List Outcome) (n : ℕ) : Type 0 where
  pub alike : AreAlikeWarm os qs
  pub count : All HadMemory os → All HadMemory qs → m ≡ n

-- settings of an accepted problem have one list of warm outcomes, and one count
abbrev pub WarmOutcomesAreOne : Type 0
WarmOutcomesAreOne = (p : Problem) (limit : ℕ) (settings : List Pairs) (os qs : List Outcome) (m n : ℕ) → IsAccepted p → AreWarmOutcomes p limit settings os m
    → AreWarmOutcomes p limit settings qs n → AreOneWarm os m qs n

-- ---- warm or not
-- the same outcomes, and as many warm ones
abbrev pub AreOneFound : List Outcome → Option ℕ → List Outcome → Option ℕ → Type 0
AreOneFound os None qs None = AreAlike os qs
AreOneFound os (Some m) qs (Some n) = AreOneWarm os m qs n
AreOneFound os None qs (Some n) = ⊥
AreOneFound os (Some m) qs None = ⊥
