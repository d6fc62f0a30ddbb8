-- The bytes so far are of the kind.
use Rattle.std.proofs.Common.{take}
use Rattle.std.specs.List.{AllByRecursion}
use Rattle.dcx_lines.specs.Reading.{IsNoSlash}
use Rattle.dcx_lines.proofs.numbers.slash_in.Given as goal

abbrev pub invariant-loop-i : goal.invariant-loop-i
invariant-loop-i l = AllByRecursion IsNoSlash (take l.i l.bytes)
