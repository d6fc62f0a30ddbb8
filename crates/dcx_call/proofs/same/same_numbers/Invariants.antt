-- The lists agree as far as they were read.
use Rattle.std.proofs.Common.{◌≡◌, take}
use Rattle.dcx_call.proofs.same.same_numbers.Given as goal

abbrev pub invariant-loop-i : goal.invariant-loop-i
invariant-loop-i l = take l.i l.a ≡ take l.i l.b
