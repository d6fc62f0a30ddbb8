-- How a setting ends, as far as settings are counted and a status goes: answered or stopped, and whether for want of memory.
use Rattle.std.specs.Prelude.{Bool, true, false}
use Rattle.dcx_answer.specs.declared.stop.Stop.TheVariants.{Memory as StopMemory}
use Rattle.dcx_answer.specs.declared.whole_answer.BranchStop.TheVariants.{Memory as BranchMemory}
use Rattle.dcx_answer.specs.declared.outcome.OutcomeEnd.{OutcomeEnd}
use Rattle.dcx_answer.specs.declared.outcome.OutcomeEnd.TheVariants.{Answer, Whole, Branch, Stop}
use Rattle.dcx_answer.specs.declared.filter_stop.FilterStop.TheVariants.{Memory as FilterMemory}
use Rattle.dcx_answer.specs.declared.filter_outcome.FilterEnd.{FilterEnd}
use Rattle.dcx_answer.specs.declared.filter_outcome.FilterEnd.TheVariants as filter
use Rattle.dcx_answer.specs.declared.range_stop.RangeStop.TheVariants.{Memory as RangeMemory}
use Rattle.dcx_answer.specs.declared.range_outcome.RangeEnd.{RangeEnd}
use Rattle.dcx_answer.specs.declared.range_outcome.RangeEnd.TheVariants as range

-- ---- answered, and not stopped
abbrev pub is_answer : OutcomeEnd → Bool
is_answer (Answer answer) = true
is_answer (Whole answer) = true
is_answer (Branch stop) = false
is_answer (Stop stop) = false

-- something is found of the constraints
abbrev pub is_filtered : FilterEnd → Bool
is_filtered (filter.Filtered found) = true
is_filtered (filter.Filter stop) = false
is_filtered (filter.Stop stop) = false

-- something is told of the parameter
abbrev pub is_ranged : RangeEnd → Bool
is_ranged (range.Ranged ranged) = true
is_ranged (range.Range stop) = false
is_ranged (range.Stop stop) = false

-- ---- stopped for want of memory
abbrev pub wants_memory : OutcomeEnd → Bool
wants_memory (Branch BranchMemory) = true
wants_memory (Stop StopMemory) = true
wants_memory _ = false

abbrev pub filter_wants_memory : FilterEnd → Bool
filter_wants_memory (filter.Filter FilterMemory) = true
filter_wants_memory (filter.Stop StopMemory) = true
filter_wants_memory _ = false

abbrev pub range_wants_memory : RangeEnd → Bool
range_wants_memory (range.Range RangeMemory) = true
range_wants_memory (range.Stop StopMemory) = true
range_wants_memory _ = false
