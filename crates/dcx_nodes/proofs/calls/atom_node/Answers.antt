-- An atom has a graph, which is its own.
use Rattle.dcx_call.specs.declared.call.Call.TheVariants as calls
use Rattle.dcx_nodes.proofs.AtNode.{the_node}
use Rattle.dcx_nodes.proofs.AtomNodes.{graph_there, atom_within}
use Rattle.dcx_nodes.proofs.calls.atom_node.Goals as goal

pub node_graph-requires : goal.node_graph-requires
node_graph-requires g c = atom_within c.args.given.now.problem.now c.args.node.0 c.requires.call.0 c.requires.call.1

pub unreachable-requires : goal.unreachable-requires
unreachable-requires g c =
    let p = c.args.given.now.problem.now in
    let i = c.args.node.0 in
    let (m, call) = c.requires.call in
    let (n, at) = the_node p i (calls.Atom m) call in
    graph_there p i m call n at (rw c.in-Ok-None.field-0-is at c.in-Ok-None.ensures)

pub graph_entries-entries-requires-clause-graph : goal.graph_entries-entries-requires-clause-graph
graph_entries-entries-requires-clause-graph g c = rw c.in-Ok-Some.field-0-is at c.in-Ok-Some.ensures

pub returns-in-Ok-Some : goal.returns-in-Ok-Some
returns-in-Ok-Some g c =
    let made = c.graph_entries-entries.ensures in
    record { count = made.count; entries = made.entries; next = made.next }
