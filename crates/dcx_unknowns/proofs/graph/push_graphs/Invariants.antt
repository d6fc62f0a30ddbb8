-- The kinds of the nodes so far are added.
use Rattle.std.proofs.Common.{◌≡◌, ◌++◌, map}
use Rattle.dcx_unknowns.specs.Layout.{marked, aux_kind, aux_below}
use Rattle.dcx_unknowns.proofs.graph.push_graphs.Given as goal

abbrev pub invariant-nodes : goal.invariant-nodes
invariant-nodes l = l.kinds.items ≡ l.fn.kinds.items ++ map aux_kind (aux_below l.problem.tree (marked l.reduced) l.i)
