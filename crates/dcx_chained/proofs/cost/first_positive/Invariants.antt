-- No number that the walk has passed is positive.
use Rattle.std.proofs.Common.{◌≡◌, ℕ, ◌<◌, ◌-◌, ◌≤ℤ◌, pos, length}
use Rattle.dcx_tab.specs.Rows.{entry}
use Rattle.dcx_links.specs.Matrix.{row_of}
use Rattle.dcx_chained.proofs.cost.first_positive.Given as goal

abbrev pub invariant-numbers : goal.invariant-numbers
invariant-numbers l = record {
  numbers : l.walk.numbers ≡ row_of l.links l.row;
  passed : (j : ℕ) → j < l.walk.from → entry (row_of l.links l.row) j ≤ℤ pos 0;
}

abbrev pub decreases-numbers : goal.decreases-numbers
decreases-numbers l = length l.walk.numbers - l.walk.from
