-- The nodes so far, and then those of the operands that are left, are those of all operands.
use Rattle.std.proofs.Common.{◌≡◌, map, drop}
use Rattle.dcx_arena.specs.Nodes.{positions}
use Rattle.dcx_script_values.specs.Nodes.{all_pushed}
use Rattle.dcx_script_values.specs.View.{meant_operand}
use Rattle.dcx_script_state.proofs.Each.{go_on}
use Rattle.dcx_script_state.proofs.state.State.all_pushed.Given as goal

abbrev pub invariant-loop-operand : goal.invariant-loop-operand
invariant-loop-operand l =
    all_pushed l.place (map meant_operand l.operands) l.initial.self ≡ go_on (positions l.nodes.items) (all_pushed l.place (map meant_operand (drop l.operand-index l.operands)) l.self)
