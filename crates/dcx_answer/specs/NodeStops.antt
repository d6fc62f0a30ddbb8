-- Which stops name a node of the problem.
use Rattle.std.specs.Prelude.{Bool, true, false}
use Rattle.dcx_answer.specs.declared.site.Site.TheVariants.{Node}
use Rattle.dcx_answer.specs.declared.stop.Stop.{Stop}
use Rattle.dcx_answer.specs.declared.stop.Stop.TheVariants.{ZeroDivisor, Wide}
use Rattle.dcx_answer.specs.declared.outcome.OutcomeEnd.{OutcomeEnd}
use Rattle.dcx_answer.specs.declared.outcome.OutcomeEnd.TheVariants as the
use Rattle.dcx_answer.specs.declared.filter_outcome.FilterEnd.{FilterEnd}
use Rattle.dcx_answer.specs.declared.filter_outcome.FilterEnd.TheVariants as filter
use Rattle.dcx_answer.specs.declared.range_outcome.RangeEnd.{RangeEnd}
use Rattle.dcx_answer.specs.declared.range_outcome.RangeEnd.TheVariants as range

-- a zero divisor, or an operation at a node that passes
abbrev pub stop_names_node : Stop → Bool
stop_names_node (ZeroDivisor node entry) = true
stop_names_node (Wide (Node node entry passes)) = true
stop_names_node _ = false

abbrev pub names_node : OutcomeEnd → Bool
names_node (the.Answer answer) = false
names_node (the.Whole answer) = false
names_node (the.Branch stop) = false
names_node (the.Stop stop) = stop_names_node stop

abbrev pub filter_names_node : FilterEnd → Bool
filter_names_node (filter.Filtered found) = false
filter_names_node (filter.Filter stop) = false
filter_names_node (filter.Stop stop) = stop_names_node stop

abbrev pub range_names_node : RangeEnd → Bool
range_names_node (range.Ranged ranged) = false
range_names_node (range.Range stop) = false
range_names_node (range.Stop stop) = stop_names_node stop
