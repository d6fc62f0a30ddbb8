-- The pivot is wide in none of the rows that the walk has passed.
use Rattle.std.proofs.Common.{◌≡◌, ◌≢◌, ℕ, ◌<◌, ◌-◌, length}
use Rattle.dcx_tab.specs.Pivot.{turned, IsRowFormed}
use Rattle.dcx_links.specs.Matrix.{row_of, column_of}
use Rattle.dcx_chained.proofs.wide.first_wide.Given as goal

abbrev pub invariant-rows : goal.invariant-rows
invariant-rows l = record {
  numbers : l.walk.numbers ≡ column_of l.links l.column;
  formed : (i : ℕ) → i < l.walk.from → i ≢ l.r → IsRowFormed l.column (turned l.column (row_of l.links l.r)) (row_of l.links i);
}

abbrev pub decreases-rows : goal.decreases-rows
decreases-rows l = length l.walk.numbers - l.walk.from
