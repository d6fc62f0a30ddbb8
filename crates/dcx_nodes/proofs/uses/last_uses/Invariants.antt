-- The last uses by the nodes so far.
use Rattle.dcx_nodes.proofs.LastUses.{AreUsesTo}
use Rattle.dcx_nodes.proofs.uses.last_uses.Given as goal

abbrev pub invariant-nodes : goal.invariant-nodes
invariant-nodes l = AreUsesTo l.problem l.node l.uses.items
