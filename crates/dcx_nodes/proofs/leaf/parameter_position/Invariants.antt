-- None of the names so far is the one that is looked for.
use Rattle.dcx_nodes.proofs.Positions.{Passed}
use Rattle.dcx_nodes.proofs.leaf.parameter_position.Given as goal

abbrev pub invariant-parameters : goal.invariant-parameters
invariant-parameters l = Passed (λ x. x.name) l.parameters l.name l.position
