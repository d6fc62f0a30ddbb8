-- The lines of settings at which constraints are filtered.
use Rattle.std.specs.Prelude.{ℕ, ◌+◌, not, List, ◌++◌, None, codes, decimal, count_by}
use Rattle.std.specs.List.{flat_map, enumerate_from, zip}
use Rattle.std.specs.declared.option.Option.{Option}
use Rattle.dcx_shape.specs.declared.place.Place.{Place}
use Rattle.dcx_point.specs.Pairs.{Pairs}
use Rattle.dcx_answer.specs.declared.filter_stop.FilterStop.{FilterStop}
use Rattle.dcx_answer.specs.declared.filter_stop.FilterStop.TheVariants as filter
use Rattle.dcx_answer.specs.declared.filtered.Filtered.{Filtered}
use Rattle.dcx_answer.specs.declared.filtered.Filtered.TheVariants.{Feasible, Infeasible}
use Rattle.dcx_answer.specs.declared.stop.Stop.TheVariants as stops
use Rattle.dcx_answer.specs.declared.filter_outcome.FilterEnd.{FilterEnd}
use Rattle.dcx_answer.specs.declared.filter_outcome.FilterEnd.TheVariants as the
use Rattle.dcx_answer.specs.declared.filter_outcome.FilterOutcome.{FilterOutcome}
use Rattle.dcx_report.specs.Ends.{is_filtered}
use Rattle.dcx_report.specs.AnswerText.{var_lines}
use Rattle.dcx_report.specs.OutcomeText.{counts_line}
use Rattle.dcx_report.specs.StopText.{stop_name, stop_details, stopped_text}

-- a constraint, whose number is counted from 1 here
unfoldable pub member_text : ℕ → List ℕ
member_text member = codes " " ++ decimal (member + 1)

-- a constraint that is left out, and a point that keeps the others
unfoldable pub without_lines : ℕ × Pairs → List ℕ
without_lines left = codes "without" ++ member_text left.0 ++ codes "\n" ++ var_lines left.1

-- the members, each with its point
unfoldable pub points_lines : List ℕ → List Pairs → List ℕ
points_lines members points = flat_map without_lines (zip members points)

-- what stands behind the number of a setting at which this is found
unfoldable pub filtered_text : Filtered → List ℕ
filtered_text (Feasible point) = codes " feasible\n" ++ var_lines point
filtered_text (Infeasible members duals gap points) = codes " infeasible constraints" ++ flat_map member_text members ++ codes "\n" ++ points_lines members points

-- a step of the filter is stopped
unfoldable pub step_text : ℕ → List ℕ
step_text step = codes " stopped 37 Filter step " ++ decimal step ++ codes " "

-- what stands behind the number of a setting at which a step of the filter is stopped, which names no node
unfoldable pub filter_stop_text : FilterStop → List ℕ
filter_stop_text (filter.Step step stop) = step_text step ++ stop_name stop ++ stop_details None stop ++ codes "\n"
filter_stop_text filter.Memory = stopped_text None stops.Memory

-- what stands behind the number of a setting
unfoldable pub filter_end_text : Option Place → FilterEnd → List ℕ
filter_end_text place (the.Filtered found) = filtered_text found
filter_end_text place (the.Filter stop) = filter_stop_text stop
filter_end_text place (the.Stop stop) = stopped_text place stop

-- the lines of a setting, with its number
unfoldable pub filter_text : ℕ × FilterOutcome → List ℕ
filter_text numbered = codes "setting " ++ decimal numbered.0 ++ filter_end_text numbered.1.place numbered.1.end

-- the lines of the settings, numbered from 1
unfoldable pub filter_lines : List FilterOutcome → List ℕ
filter_lines outcomes = flat_map filter_text (enumerate_from 1 outcomes)

-- at how many settings something is found, and how many are stopped
unfoldable pub filter_count_line : List FilterOutcome → List ℕ
filter_count_line outcomes = counts_line (count_by (λ o. is_filtered o.end) outcomes) (count_by (λ o. not (is_filtered o.end)) outcomes)
