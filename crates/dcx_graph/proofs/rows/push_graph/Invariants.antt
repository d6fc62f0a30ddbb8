-- The rows that were taken are added.
use Rattle.std.proofs.Common.{◌≡◌, ◌++◌, map}
use Rattle.dcx_graph.specs.Program.{graph_row}
use Rattle.dcx_graph.proofs.rows.push_graph.Given as goal

abbrev pub invariant-graph : goal.invariant-graph
invariant-graph g l = l.rows.items ≡ l.fn.rows.items ++ map graph_row l.yielded
