-- The numbers that the walk has passed are within the size.
use Rattle.std.proofs.Common.{◌≡◌, ℕ, ◌<◌, ◌≤◌, ◌-◌, length, unsigned_abs}
use Rattle.dcx_tab.specs.Rows.{entry}
use Rattle.dcx_links.specs.Matrix.{row_of}
use Rattle.dcx_chained.proofs.narrow.size_of.Given as goal

abbrev pub invariant-numbers : goal.invariant-numbers
invariant-numbers l = record {
  numbers : l.walk.numbers ≡ row_of l.links l.i;
  within : (j : ℕ) → j < l.walk.from → unsigned_abs (entry (row_of l.links l.i) j) ≤ l.size;
}

abbrev pub decreases-numbers : goal.decreases-numbers
decreases-numbers l = length l.walk.numbers - l.walk.from
