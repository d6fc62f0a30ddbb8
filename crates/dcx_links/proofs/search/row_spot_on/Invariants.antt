-- The search stands at a cell of the row before the column, or at the head, and its link is the next one.
use Rattle.std.proofs.Common.{◌≡◌, ◌≤◌, ◌-◌}
use Rattle.dcx_links.specs.Lines.{IsFrom, link_of}
use Rattle.dcx_links.specs.Cells.{head_at, InRow, next_in_row_at, bound_in_row}
use Rattle.dcx_links.proofs.search.row_spot_on.Given as goal

abbrev pub invariant-loop-link : goal.invariant-loop-link
invariant-loop-link l = record {
  from : IsFrom (InRow l.cells) l.row l.from (bound_in_row l.cells l.from);
  below : bound_in_row l.cells l.from ≤ l.column;
  leads : l.link ≡ link_of (head_at l.heads) (next_in_row_at l.cells) l.row l.from;
}

abbrev pub decreases-loop-link : goal.decreases-loop-link
decreases-loop-link l = l.column - bound_in_row l.cells l.from
