-- The lines of settings at which a parameter's range is told.
use Rattle.std.specs.Prelude.{ℕ, not, List, ◌++◌, Some, None, codes, decimal, count_by}
use Rattle.std.specs.List.{flat_map, enumerate_from}
use Rattle.std.specs.declared.option.Option.{Option}
use Rattle.dcx_shape.specs.declared.place.Place.{Place}
use Rattle.dcx_frac.specs.declared.fraction.Frac.{Frac}
use Rattle.dcx_frac.specs.Text.{frac_text}
use Rattle.dcx_tree.specs.declared.constraint.Sense.{Sense}
use Rattle.dcx_answer.specs.declared.stop.Stop.TheVariants as stops
use Rattle.dcx_answer.specs.declared.ranged.Ranged.{Ranged}
use Rattle.dcx_answer.specs.declared.ranged.Ranged.TheVariants.{Span, Infeasible, Unbounded}
use Rattle.dcx_answer.specs.declared.range_stop.RangeStop.{RangeStop}
use Rattle.dcx_answer.specs.declared.range_stop.RangeStop.TheVariants as range
use Rattle.dcx_answer.specs.declared.range_outcome.RangeEnd.{RangeEnd}
use Rattle.dcx_answer.specs.declared.range_outcome.RangeEnd.TheVariants as the
use Rattle.dcx_answer.specs.declared.range_outcome.RangeOutcome.{RangeOutcome}
use Rattle.dcx_report.specs.Ends.{is_ranged}
use Rattle.dcx_report.specs.AnswerText.{user_number}
use Rattle.dcx_report.specs.OutcomeText.{counts_line}
use Rattle.dcx_report.specs.Pieces.{passes_text}
use Rattle.dcx_report.specs.StopText.{stopped_text}

-- an end of a span, if it has one
unfoldable pub bound_text : Option Frac → List ℕ
bound_text (Some bound) = frac_text bound
bound_text None = codes "none"

-- from where to where a parameter may move
unfoldable pub span_text : Option Frac → Option Frac → List ℕ
span_text low high = codes " from " ++ bound_text low ++ codes " to " ++ bound_text high

-- the line that the user's objective goes along: its value where the parameter is 0, and its slope
unfoldable pub course_text : Sense → (constant slope : Frac) → List ℕ
course_text sense constant slope = codes " value " ++ frac_text (user_number sense constant) ++ codes " slope " ++ frac_text (user_number sense slope)

-- what stands behind the number of a setting at which this is told of the parameter
unfoldable pub ranged_text : List ℕ → Sense → Ranged → List ℕ
ranged_text parameter sense (Span low high constant slope) = codes " range " ++ parameter ++ span_text low high ++ course_text sense constant slope ++ codes "\n"
ranged_text parameter sense Infeasible = codes " infeasible\n"
ranged_text parameter sense Unbounded = codes " unbounded\n"

-- what stands behind the number of a setting at which the range is stopped, which names no node
unfoldable pub range_stop_text : RangeStop → List ℕ
range_stop_text (range.Wide site) = stopped_text None (stops.Wide site)
range_stop_text (range.PivotLimit count) = stopped_text None (stops.PivotLimit count)
range_stop_text (range.RangeWide passes) = codes " stopped 36 RangeWide" ++ passes_text passes ++ codes "\n"
range_stop_text range.Memory = stopped_text None stops.Memory

-- what stands behind the number of a setting
unfoldable pub range_end_text : List ℕ → Sense → Option Place → RangeEnd → List ℕ
range_end_text parameter sense place (the.Ranged ranged) = ranged_text parameter sense ranged
range_end_text parameter sense place (the.Range stop) = range_stop_text stop
range_end_text parameter sense place (the.Stop stop) = stopped_text place stop

-- the line of a setting, with its number
unfoldable pub range_text : List ℕ → Sense → ℕ × RangeOutcome → List ℕ
range_text parameter sense numbered = codes "setting " ++ decimal numbered.0 ++ range_end_text parameter sense numbered.1.place numbered.1.end

-- the lines of the settings, numbered from 1
unfoldable pub range_lines : List ℕ → Sense → List RangeOutcome → List ℕ
range_lines parameter sense outcomes = flat_map (range_text parameter sense) (enumerate_from 1 outcomes)

-- at how many settings something is told, and how many are stopped
unfoldable pub range_count_line : List RangeOutcome → List ℕ
range_count_line outcomes = counts_line (count_by (λ o. is_ranged o.end) outcomes) (count_by (λ o. not (is_ranged o.end)) outcomes)
