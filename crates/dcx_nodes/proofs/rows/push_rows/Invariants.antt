-- The rows of the entry so far are added, and counted.
use Rattle.std.proofs.Common.{◌≡◌, ◌++◌, length, take}
use Rattle.dcx_nodes.proofs.GraphRows.{rows_made}
use Rattle.dcx_nodes.proofs.rows.push_rows.Given as goal

abbrev pub invariant-rows : goal.invariant-rows
invariant-rows g l = record {
  row_is : l.row ≡ length l.yielded;
  rows_are : l.rows.items ≡ l.initial.rows.items ++ rows_made g.C.Coef.of_number l.node.0 l.entry (take (length l.yielded) l.fn.own);
}
