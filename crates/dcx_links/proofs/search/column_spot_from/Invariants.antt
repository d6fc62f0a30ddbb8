-- The search stands at a cell of the column above the row, or at the head, and its link is the next one.
use Rattle.std.proofs.Common.{◌≡◌, ◌≤◌, ◌-◌}
use Rattle.dcx_links.specs.Lines.{IsFrom, link_of}
use Rattle.dcx_links.specs.Cells.{head_at, InColumn, next_in_column_at, bound_in_column}
use Rattle.dcx_links.proofs.search.column_spot_from.Given as goal

abbrev pub invariant-loop-link : goal.invariant-loop-link
invariant-loop-link l = record {
  from : IsFrom (InColumn l.cells) l.column l.from (bound_in_column l.cells l.from);
  below : bound_in_column l.cells l.from ≤ l.row;
  leads : l.link ≡ link_of (head_at l.heads) (next_in_column_at l.cells) l.column l.from;
}

abbrev pub decreases-loop-link : goal.decreases-loop-link
decreases-loop-link l = l.row - bound_in_column l.cells l.from
