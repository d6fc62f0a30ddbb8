-- What is right of the outcomes of settings.
use Rattle.std.specs.Prelude.{⊤, List}
use Rattle.std.specs.List.{AllZip}
use Rattle.dcx_point.specs.Pairs.{Pairs}
use Rattle.dcx_tree.specs.declared.problem.Problem.{Problem}
use Rattle.dcx_answer.specs.declared.outcome.Outcome.{Outcome}
use Rattle.dcx_answer.specs.declared.outcome.OutcomeEnd.{OutcomeEnd}
use Rattle.dcx_answer.specs.declared.outcome.OutcomeEnd.TheVariants as the
use Rattle.dcx_right.specs.Answers.{IsRightAnswer}
use Rattle.dcx_right.specs.WholeAnswers.{IsRightWhole}

-- the answer with which a setting ends, if it has one, is right there
abbrev pub IsRightEnd : Problem → Pairs → OutcomeEnd → Type 0
IsRightEnd p setting (the.Answer a) = IsRightAnswer p setting a
IsRightEnd p setting (the.Whole a) = IsRightWhole p setting a
IsRightEnd p setting (the.Branch stop) = ⊤
IsRightEnd p setting (the.Stop stop) = ⊤

-- each answer among the outcomes, of which there is one for each setting, is right at its setting
abbrev pub AreRight : Problem → List Pairs → List Outcome → Type 0
AreRight p settings outcomes = AllZip (λ s o. IsRightEnd p s o.end) settings outcomes

-- ---- the kind of an outcome
-- no variable is to be whole: the setting has an answer or a stop
abbrev pub IsSolvedEnd : OutcomeEnd → Type 0
IsSolvedEnd (the.Answer a) = ⊤
IsSolvedEnd (the.Whole a) = ⊥
IsSolvedEnd (the.Branch stop) = ⊥
IsSolvedEnd (the.Stop stop) = ⊤

-- a variable is to be whole: it has a whole answer, or a stop of the run of nodes or of the program
abbrev pub IsBranchedEnd : OutcomeEnd → Type 0
IsBranchedEnd (the.Answer a) = ⊥
IsBranchedEnd (the.Whole a) = ⊤
IsBranchedEnd (the.Branch stop) = ⊤
IsBranchedEnd (the.Stop stop) = ⊤
