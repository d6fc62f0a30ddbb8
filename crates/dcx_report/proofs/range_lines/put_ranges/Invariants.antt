-- The lines so far are appended, and counted.
use Rattle.std.proofs.Common.{◌≡◌, ◌++◌, take}
use Rattle.std.specs.List.{flat_map, enumerate_from}
use Rattle.dcx_report.specs.RangeText.{range_text}
use Rattle.dcx_report.proofs.range_lines.put_ranges.Given as goal

abbrev pub invariant-loop-outcome : goal.invariant-loop-outcome
invariant-loop-outcome l = record {
  counted : l.number ≡ l.outcome-index;
  lines : l.out.items ≡ l.fn.out.items ++ flat_map (range_text l.parameter l.sense) (enumerate_from 1 (take l.outcome-index l.outcomes));
}
