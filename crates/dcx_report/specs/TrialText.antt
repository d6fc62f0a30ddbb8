-- The lines of a trial: of an optimal answer the value alone, and of the others their kind.
use Rattle.std.specs.Prelude.{ℕ, List, ◌++◌, codes, decimal}
use Rattle.std.specs.List.{flat_map, enumerate_from}
use Rattle.std.specs.declared.option.Option.{Option}
use Rattle.dcx_shape.specs.declared.place.Place.{Place}
use Rattle.dcx_frac.specs.Text.{frac_text}
use Rattle.dcx_tree.specs.declared.constraint.Sense.TheVariants.{Minimize}
use Rattle.dcx_answer.specs.declared.answer.Answer.{Answer}
use Rattle.dcx_answer.specs.declared.answer.Answer.TheVariants.{Optimal, Infeasible, Unbounded}
use Rattle.dcx_answer.specs.declared.outcome.Outcome.{Outcome}
use Rattle.dcx_answer.specs.declared.outcome.OutcomeEnd.{OutcomeEnd}
use Rattle.dcx_answer.specs.declared.outcome.OutcomeEnd.TheVariants as the
use Rattle.dcx_report.specs.StopText.{stopped_text}
use Rattle.dcx_report.specs.WholeText.{whole_text, branch_stop_text}

-- the kind of the answer; the trial problem is minimized, so its value is the user's as it stands
unfoldable pub answer_kind : Answer → List ℕ
answer_kind (Optimal value point duals) = codes " optimal value " ++ frac_text value
answer_kind (Infeasible duals gap) = codes " infeasible"
answer_kind (Unbounded point ray bound slope) = codes " unbounded"

-- what stands behind the number of a setting; of a problem with marked variables it is what a solve tells
unfoldable pub trial_end : Option Place → OutcomeEnd → List ℕ
trial_end place (the.Answer answer) = answer_kind answer ++ codes "\n"
trial_end place (the.Whole answer) = whole_text Minimize answer
trial_end place (the.Branch stop) = branch_stop_text stop
trial_end place (the.Stop stop) = stopped_text place stop

-- the line of a setting, with its number
unfoldable pub trial_line : ℕ × Outcome → List ℕ
trial_line numbered = codes "setting " ++ decimal numbered.0 ++ trial_end numbered.1.place numbered.1.end

-- the lines of the settings, numbered from 1
unfoldable pub setting_lines : List Outcome → List ℕ
setting_lines outcomes = flat_map trial_line (enumerate_from 1 outcomes)

-- the size, and then the settings
unfoldable pub trial_lines : ℕ → List Outcome → List ℕ
trial_lines size outcomes = codes "trial " ++ decimal size ++ codes "\n" ++ setting_lines outcomes
