-- The rows and columns of the nodes so far.
use Rattle.std.proofs.Common.{◌≡◌}
use Rattle.dcx_linear.specs.Size.{capped}
use Rattle.dcx_unknowns.specs.Layout.{marked, rows_counted}
use Rattle.dcx_unknowns.proofs.Layouts.{aux_columns_at}
use Rattle.dcx_unknowns.proofs.graph.graph_size.Given as goal

abbrev pub invariant-nodes : goal.invariant-nodes
invariant-nodes l = record {
  rows_are : l.rows ≡ capped (rows_counted l.problem.tree (marked l.reduced) l.i);
  columns_are : l.columns ≡ capped (aux_columns_at l.problem.tree (marked l.reduced) l.i);
}
