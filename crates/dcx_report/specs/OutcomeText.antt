-- The lines of the outcomes of a run.
use Rattle.std.specs.Prelude.{ℕ, not, List, [], ◌++◌, Some, None, codes, decimal, count_by}
use Rattle.std.specs.List.{flat_map, enumerate_from}
use Rattle.std.specs.declared.option.Option.{Option}
use Rattle.dcx_shape.specs.declared.place.Place.{Place}
use Rattle.dcx_tree.specs.declared.constraint.Sense.{Sense}
use Rattle.dcx_answer.specs.declared.outcome.Outcome.{Outcome}
use Rattle.dcx_answer.specs.declared.outcome.OutcomeEnd.{OutcomeEnd}
use Rattle.dcx_answer.specs.declared.outcome.OutcomeEnd.TheVariants.{Answer, Whole, Branch, Stop}
use Rattle.dcx_report.specs.declared.run.Word.{Word}
use Rattle.dcx_report.specs.declared.run.Word.TheVariants.{Solve, Setting}
use Rattle.dcx_report.specs.Ends.{is_answer}
use Rattle.dcx_report.specs.AnswerText.{answer_text}
use Rattle.dcx_report.specs.StopText.{stopped_text}
use Rattle.dcx_report.specs.WholeText.{whole_text, branch_stop_text}

-- the word that an outcome's first line begins with
unfoldable pub word_text : Word → List ℕ
word_text Solve = codes "solve"
word_text Setting = codes "setting"

-- what stands behind the number of a setting
unfoldable pub end_text : Sense → Option Place → OutcomeEnd → List ℕ
end_text sense place (Answer answer) = answer_text sense answer
end_text sense place (Whole answer) = whole_text sense answer
end_text sense place (Branch stop) = branch_stop_text stop
end_text sense place (Stop stop) = stopped_text place stop

-- the lines of one outcome, with its number
unfoldable pub outcome_text : Word → Sense → ℕ × Outcome → List ℕ
outcome_text word sense numbered =
    word_text word ++ codes " " ++ decimal numbered.0 ++ end_text sense numbered.1.place numbered.1.end

-- the lines of the outcomes, numbered from 1
unfoldable pub outcome_lines : Word → Sense → List Outcome → List ℕ
outcome_lines word sense outcomes = flat_map (outcome_text word sense) (enumerate_from 1 outcomes)

-- how many settings are answered
abbrev pub count_of_answers : List Outcome → ℕ
count_of_answers outcomes = count_by (λ o. is_answer o.end) outcomes

-- how many settings are stopped
abbrev pub count_of_stops : List Outcome → ℕ
count_of_stops outcomes = count_by (λ o. not (is_answer o.end)) outcomes

-- so many settings are answered, and so many are stopped
abbrev pub counts_line : (answers stops : ℕ) → List ℕ
counts_line answers stops = codes "answered " ++ decimal answers ++ codes " stopped " ++ decimal stops ++ codes "\n"

unfoldable pub count_line : List Outcome → List ℕ
count_line outcomes = counts_line (count_of_answers outcomes) (count_of_stops outcomes)

-- how many outcomes are warm, where they are counted
unfoldable pub warm_line : Option ℕ → List ℕ
warm_line (Some count) = codes "warm " ++ decimal count ++ codes "\n"
warm_line None = []
