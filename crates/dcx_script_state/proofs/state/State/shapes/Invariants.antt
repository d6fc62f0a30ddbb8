-- The shapes so far have the sides of the operands that are passed.
use Rattle.std.proofs.Common.{◌≡◌, map, take}
use Rattle.dcx_shape.specs.Shape.{sides_of}
use Rattle.dcx_script_values.specs.Nodes.{operand_sides}
use Rattle.dcx_script_values.specs.View.{meant_operand}
use Rattle.dcx_script_state.proofs.state.State.shapes.Given as goal

abbrev pub invariant-loop-operand : goal.invariant-loop-operand
invariant-loop-operand l = map sides_of l.shapes.items ≡ map (operand_sides l.self.nodes) (map meant_operand (take l.operand-index l.operands))
