-- None of the names so far is the one that is looked for.
use Rattle.dcx_nodes.proofs.Positions.{Passed}
use Rattle.dcx_nodes.proofs.leaf.variable_position.Given as goal

abbrev pub invariant-variables : goal.invariant-variables
invariant-variables l = Passed (λ x. x.name) l.variables l.name l.position
