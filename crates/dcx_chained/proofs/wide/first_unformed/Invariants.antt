-- What is formed in the columns that the walk has passed isn't too great.
use Rattle.std.proofs.Common.{◌≡◌, ℕ, ◌<◌, ◌-◌, length}
use Rattle.dcx_tab.specs.Rows.{entry}
use Rattle.dcx_tab.specs.Pivot.{IsFormed}
use Rattle.dcx_links.specs.Matrix.{row_of}
use Rattle.dcx_chained.proofs.wide.first_unformed.Given as goal

abbrev pub invariant-columns : goal.invariant-columns
invariant-columns l = record {
  first : l.pairs.first ≡ row_of l.links l.i;
  second : l.pairs.second ≡ row_of l.links l.r;
  formed : (k : ℕ) → k < l.pairs.from → IsFormed l.factors.row (entry (row_of l.links l.i) k) l.factors.by (entry (row_of l.links l.r) k);
}

abbrev pub decreases-columns : goal.decreases-columns
decreases-columns l = length l.pairs.first - l.pairs.from
