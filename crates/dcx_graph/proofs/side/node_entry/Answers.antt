-- Past the nodes there is 0.
use Rattle.dcx_entries.proofs.Past.{not_below}
use Rattle.dcx_graph.proofs.Sides.{no_node}
use Rattle.dcx_graph.proofs.side.node_entry.Goals as goal

pub returns-in-None : goal.returns-in-None
returns-in-None g c = no_node g.C.Coef.of_number c.args.standing.now c.args.node.0 c.args.entry c.zero.result c.zero.ensures (not_below _ _ (c.in-None.ensures {u = tt}).lookup.0)
