-- The lines so far are appended, and counted.
use Rattle.std.proofs.Common.{◌≡◌, ◌++◌, take}
use Rattle.std.specs.List.{flat_map, enumerate_from}
use Rattle.dcx_report.specs.FilterText.{filter_text}
use Rattle.dcx_report.proofs.filter_lines.put_filters.Given as goal

abbrev pub invariant-loop-outcome : goal.invariant-loop-outcome
invariant-loop-outcome l = record {
  counted : l.number ≡ l.outcome-index;
  lines : l.out.items ≡ l.fn.out.items ++ flat_map filter_text (enumerate_from 1 (take l.outcome-index l.outcomes));
}
