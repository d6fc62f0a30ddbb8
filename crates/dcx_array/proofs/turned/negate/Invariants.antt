-- The numbers passed are turned, and the others are as they were.
use Rattle.dcx_array.proofs.GivenArrays.{AreTurned}
use Rattle.dcx_array.proofs.turned.negate.Given as goal

abbrev pub invariant-loop-k : goal.invariant-loop-k
invariant-loop-k l = AreTurned l.entries.items l.initial.entries.items l.k
