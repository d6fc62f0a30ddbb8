-- The origins of the rows so far are added.
use Rattle.std.proofs.Common.{◌≡◌, ◌++◌, map, take}
use Rattle.dcx_graph.specs.Program.{graph_origin}
use Rattle.dcx_graph.proofs.origin.push_graph.Given as goal

abbrev pub invariant-graph : goal.invariant-graph
invariant-graph g l = l.origins.items ≡ l.fn.origins.items ++ map graph_origin (take l.row-index l.graph)
