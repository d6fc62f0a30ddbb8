-- Each row is as it was, or cleared, and the row of the pivot is as it was. Where all are still narrow they are so by their sizes.
use Rattle.std.proofs.Common.{◌≡◌, ◌≢◌, ℕ, ◌<◌, ◌⊎◌, true}
use Rattle.dcx_tab.specs.Pivot.{turned, eliminated}
use Rattle.dcx_links.specs.Matrix.{row_of, column_of}
use Rattle.dcx_chained.specs.Narrow.{AreSized}
use Rattle.dcx_chained.proofs.Counts.{some_count}
use Rattle.dcx_chained.proofs.clear.clear_rows.Given as goal

abbrev pub invariant-rows : goal.invariant-rows
invariant-rows l = record {
  height : l.links.height ≡ l.initial.links.height;
  width : l.links.width ≡ l.initial.links.width;
  pivot : row_of l.links l.r ≡ row_of l.initial.links l.r;
  rows : (i : ℕ) → i < l.initial.links.height → i ≢ l.r → (row_of l.links i ≡ row_of l.initial.links i)
      ⊎ (row_of l.links i ≡ eliminated l.column (turned l.column (row_of l.initial.links l.r)) (row_of l.initial.links i));
  narrow : l.are_narrow ≡ true → AreSized l.initial.links.height l.sizes l.links;
}

abbrev pub decreases-rows : goal.decreases-rows
decreases-rows l = some_count (column_of l.links l.column)
