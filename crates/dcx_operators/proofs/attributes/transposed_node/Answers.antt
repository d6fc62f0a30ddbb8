-- The sides of the node are those of its shape.
use Rattle.std.proofs.Common.{subst, sym, ◌∙◌}
use Rattle.dcx_shape.specs.declared.shape.Sides.{Sides}
use Rattle.dcx_script_values.specs.View.{Gives}
use Rattle.dcx_operators.specs.Attributes.{node_turned}
use Rattle.dcx_operators.proofs.attributes.transposed_node.Goals as goal

pub returns-in-Matrix : goal.returns-in-Matrix
returns-in-Matrix c =
    subst (λ (sides : Sides). Gives (λ i. i.0) c.push.result c.push.new.self (node_turned c.args.place c.args.node.0 sides c.args.state.now))
    (sym c.in-Matrix.is ∙ (c.sides.ensures ∙ c.shape.ensures)) c.push.ensures
