-- The lines so far are appended, and counted.
use Rattle.std.proofs.Common.{◌≡◌, ◌++◌, take}
use Rattle.std.specs.List.{flat_map, enumerate_from}
use Rattle.dcx_lines.specs.Lines.{dual_line}
use Rattle.dcx_lines.proofs.lines.put_dual_lines.Given as goal

abbrev pub invariant-loop-array : goal.invariant-loop-array
invariant-loop-array l = record {
  counted : l.number ≡ l.array-index;
  lines : l.out.items ≡ l.fn.out.items ++ flat_map dual_line (enumerate_from 1 (take l.array-index l.duals));
}
