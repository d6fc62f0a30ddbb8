-- The pairs so far are copied.
use Rattle.std.proofs.Common.{◌≡◌, take}
use Rattle.dcx_point.proofs.arrays.Arrays.copy.Given as goal

abbrev pub invariant-loop-i : goal.invariant-loop-i
invariant-loop-i l = l.copied ≡ take l.i l.self
