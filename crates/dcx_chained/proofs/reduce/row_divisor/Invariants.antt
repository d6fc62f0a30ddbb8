-- The divisor so far is that of the numbers that the walk has passed.
use Rattle.std.proofs.Common.{◌≡◌, ◌-◌, length}
use Rattle.dcx_links.specs.Matrix.{row_of}
use Rattle.dcx_chained.proofs.Divisors.{DividesBefore}
use Rattle.dcx_chained.proofs.reduce.row_divisor.Given as goal

abbrev pub invariant-numbers : goal.invariant-numbers
invariant-numbers l = record {
  numbers : l.walk.numbers ≡ row_of l.links l.i;
  found : DividesBefore (row_of l.links l.i) l.walk.from l.found;
}

abbrev pub decreases-numbers : goal.decreases-numbers
decreases-numbers l = length l.walk.numbers - l.walk.from
