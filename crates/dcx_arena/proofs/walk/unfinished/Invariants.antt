-- As many nodes as are counted, and none has a number.
use Rattle.std.proofs.Common.{◌≡◌, None, replicate}
use Rattle.dcx_arena.proofs.walk.unfinished.Given as goal

abbrev pub invariant-loop : goal.invariant-loop
invariant-loop l = l.numbers.items ≡ replicate l.counter None
