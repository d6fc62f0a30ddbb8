-- The entries so far are the numbers that the walk has passed.
use Rattle.std.proofs.Common.{◌≡◌, ◌≤◌, ◌-◌, length}
use Rattle.dcx_links.specs.Matrix.{row_of}
use Rattle.dcx_chained.specs.NewRow.{AreListed}
use Rattle.dcx_chained.proofs.mix.list_row.Given as goal

abbrev pub invariant-numbers : goal.invariant-numbers
invariant-numbers l = record {
  numbers : l.walk.numbers ≡ row_of l.links l.r;
  few : l.count ≤ l.walk.from;
  below : l.walk.from ≤ l.links.width;
  listed : AreListed (row_of l.links l.r) l.walk.from l.to l.count;
}

abbrev pub decreases-numbers : goal.decreases-numbers
decreases-numbers l = length l.walk.numbers - l.walk.from
