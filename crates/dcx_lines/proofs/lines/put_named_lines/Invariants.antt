-- The lines so far are appended.
use Rattle.std.proofs.Common.{◌≡◌, ◌++◌, take}
use Rattle.std.specs.List.{flat_map}
use Rattle.dcx_lines.specs.Lines.{named_line}
use Rattle.dcx_lines.proofs.lines.put_named_lines.Given as goal

abbrev pub invariant-pairs : goal.invariant-pairs
invariant-pairs l = l.out.items ≡ l.fn.out.items ++ flat_map (named_line l.word) (take l.i l.point)
