-- The point has no values.
use Rattle.dcx_nodes.proofs.number.node_value.Goals as goal

pub value_at_point-value-requires-clause-point : goal.value_at_point-value-requires-clause-point
value_at_point-value-requires-clause-point g c = c.empty-point.ensures

pub returns : goal.returns
returns g c =
    let at = c.value_at_point-value.ensures in
    record { sides = at.sides; value = at.value }
