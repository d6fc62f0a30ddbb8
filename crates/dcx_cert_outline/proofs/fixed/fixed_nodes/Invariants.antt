-- The nodes so far are marked.
use Rattle.dcx_cert_outline.specs.Drawn.{AreFixed}
use Rattle.dcx_cert_outline.proofs.fixed.fixed_nodes.Given as goal

abbrev pub invariant-nodes : goal.invariant-nodes
invariant-nodes l = AreFixed l.problem l.marks.items l.i
