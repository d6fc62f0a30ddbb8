-- The outcomes of settings at which a problem with marked variables is solved.
use Rattle.std.specs.Prelude.{◌≡◌, ℕ, List, Result, Ok, Err}
use Rattle.dcx_frac.specs.declared.fraction.Frac.{Frac}
use Rattle.dcx_point.specs.Pairs.{Pairs}
use Rattle.dcx_tree.specs.declared.problem.Problem.{Problem}
use Rattle.dcx_answer.specs.declared.stop.Stop.{Stop}
use Rattle.dcx_answer.specs.declared.outcome.Outcome.{Outcome}
use Rattle.dcx_answer.specs.declared.outcome.OutcomeEnd.{OutcomeEnd}
use Rattle.dcx_answer.specs.declared.outcome.OutcomeEnd.TheVariants as the
use Rattle.dcx_graph.specs.Program.{Program}
use Rattle.dcx_answer.specs.declared.whole_answer.WholeAnswer.{WholeAnswer}
use Rattle.dcx_answer.specs.declared.whole_answer.BranchStop.{BranchStop}
use Rattle.dcx_branch.specs.Answers.{IsEndOf}
use Rattle.dcx_outcomes.specs.Asking.{AreAskedOutcomes}

-- how many nodes a run may have
abbrev pub most_nodes : ℕ
most_nodes = 10000

-- ---- one setting
-- the run of nodes over the program ends so, or stops so
abbrev pub WholeGives : ℕ → Problem → Pairs → Program Frac → Result WholeAnswer BranchStop → Type 0
WholeGives limit p setting program r = IsEndOf p program limit most_nodes r

-- how a setting ends: with the end of the run, or with what stops the program
abbrev pub whole_end : Result (Result WholeAnswer BranchStop) Stop → OutcomeEnd
whole_end (Ok (Ok answer)) = the.Whole answer
whole_end (Ok (Err stop)) = the.Branch stop
whole_end (Err stop) = the.Stop stop

-- ---- all settings
-- one outcome for each, in order
abbrev pub AreWholeOutcomes : Problem → ℕ → List Pairs → List Outcome → Type 0
AreWholeOutcomes p limit settings outcomes =
    AreAskedOutcomes (WholeGives limit) (λ (o : Outcome) (e : Result (Result WholeAnswer BranchStop) Stop). o.end ≡ whole_end e) (λ (o : Outcome). o.place) p settings outcomes
