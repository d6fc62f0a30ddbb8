-- What the report of a run tells: two runs over one problem with the same report have the same answers.
use Rattle.std.specs.Prelude.{◌≡◌, ◌≢◌, ℕ, ◌<◌, ◌^◌, List, All, map, None, Some, ⊤}
use Rattle.std.specs.declared.option.Option.{Option}
use Rattle.dcx_shape.specs.declared.shape.Shape.{Shape}
use Rattle.dcx_frac.specs.declared.fraction.Frac.{Frac}
use Rattle.dcx_point.specs.Pairs.{Pairs}
use Rattle.dcx_tree.specs.declared.constraint.Sense.{Sense}
use Rattle.dcx_answer.specs.declared.answer.Answer.{Answer}
use Rattle.dcx_answer.specs.declared.answer.Answer.TheVariants.{Optimal, Infeasible, Unbounded}
use Rattle.dcx_answer.specs.declared.stop.Stop.{Stop}
use Rattle.dcx_answer.specs.declared.stop.Stop.TheVariants.{UnknownParam, MissingParam, ParamShape, ParamSign}
use Rattle.dcx_answer.specs.declared.whole_answer.WholeAnswer.{WholeAnswer}
use Rattle.dcx_answer.specs.declared.whole_answer.WholeAnswer.TheVariants as whole
use Rattle.dcx_answer.specs.declared.whole_answer.BranchStop.{BranchStop}
use Rattle.dcx_answer.specs.declared.whole_answer.BranchStop.TheVariants.{Node}
use Rattle.dcx_lines.specs.Shown.{variables_of, constraints_of}
use Rattle.dcx_answer.specs.declared.outcome.Outcome.{Outcome}
use Rattle.dcx_answer.specs.declared.outcome.OutcomeEnd.{OutcomeEnd}
use Rattle.dcx_answer.specs.declared.outcome.OutcomeEnd.TheVariants as the
use Rattle.dcx_report.specs.declared.run.Word.{Word}
use Rattle.dcx_report.specs.declared.run.Run.TheVariants.{Solved}
use Rattle.dcx_report.specs.ReportText.{text_of}

-- the variables and the constraints of a problem, as far as its reports show them
pub record Layout : Type 0 where
  pub variables : List (List ℕ × Shape)
  pub constraints : List Shape

-- the answer is to a problem with this layout
abbrev pub IsAnswerOf : Layout → Answer → Type 0
IsAnswerOf layout (Optimal value point duals) =
    (variables_of point ≡ layout.variables) × (constraints_of duals ≡ layout.constraints)
IsAnswerOf layout (Infeasible duals gap) = constraints_of duals ≡ layout.constraints
IsAnswerOf layout (Unbounded point ray bound slope) =
    (variables_of point ≡ layout.variables) × (variables_of ray ≡ layout.variables)

-- so is the answer in whole numbers; its number of nodes has 32 bits
abbrev pub IsWholeAnswerOf : Layout → WholeAnswer → Type 0
IsWholeAnswerOf layout (whole.Optimal value point tree nodes) = (variables_of point ≡ layout.variables) × (nodes < 2 ^ 32)
IsWholeAnswerOf layout (whole.Infeasible tree nodes) = nodes < 2 ^ 32

-- no line feed stands in the name, as in none of a script
abbrev pub IsOnOneLine : List ℕ → Type 0
IsOnOneLine name = All (λ c. c ≢ 10) name

-- the name that a stop says is on one line
abbrev pub SaysOneLine : Stop → Type 0
SaysOneLine (UnknownParam name) = IsOnOneLine name
SaysOneLine (MissingParam name) = IsOnOneLine name
SaysOneLine (ParamShape name declared given) = IsOnOneLine name
SaysOneLine (ParamSign name entry value) = IsOnOneLine name
SaysOneLine _ = ⊤

-- so is the name that the stop of a node says, where a node stops the run of nodes
abbrev pub BranchSaysOneLine : BranchStop → Type 0
BranchSaysOneLine (Node node stop) = SaysOneLine stop
BranchSaysOneLine _ = ⊤

-- the outcome is of a problem with this layout
abbrev pub IsEndOf : Layout → OutcomeEnd → Type 0
IsEndOf layout (the.Answer answer) = IsAnswerOf layout answer
IsEndOf layout (the.Whole answer) = IsWholeAnswerOf layout answer
IsEndOf layout (the.Branch stop) = BranchSaysOneLine stop
IsEndOf layout (the.Stop stop) = SaysOneLine stop

-- an answer as far as a report tells it: all of it, but for the tree of one in whole numbers
pub data ToldAnswer : Type 0 where
  solved : Answer → ToldAnswer
  whole_optimum : (value : Frac) (point : Pairs) (nodes : ℕ) → ToldAnswer
  no_whole_point : (nodes : ℕ) → ToldAnswer

-- an answer in whole numbers without its tree, which no report tells
abbrev pub without_tree : WholeAnswer → ToldAnswer
without_tree (whole.Optimal value point tree nodes) = whole_optimum value point nodes
without_tree (whole.Infeasible tree nodes) = no_whole_point nodes

-- the answer to a setting, where it has one
abbrev pub answer_of : OutcomeEnd → Option ToldAnswer
answer_of (the.Answer answer) = Some (solved answer)
answer_of (the.Whole answer) = Some (without_tree answer)
answer_of (the.Branch stop) = None
answer_of (the.Stop stop) = None

-- the answers of a run, in order
abbrev pub answers_of : List Outcome → List (Option ToldAnswer)
answers_of outcomes = map (λ o. answer_of o.end) outcomes

-- two runs over one problem with the same report have the same answers, but for the trees of those in whole numbers
abbrev pub SameTextSameAnswers : Type 0
SameTextSameAnswers =
    (layout : Layout) (word : Word) (sense : Sense) (xs ys : List Outcome) (m n : Option ℕ)
    → All (λ o. IsEndOf layout o.end) xs → All (λ o. IsEndOf layout o.end) ys
    → text_of (Solved word sense xs m) ≡ text_of (Solved word sense ys n) → answers_of xs ≡ answers_of ys
