-- All arguments are read in their order, and the node is made of them.
use Rattle.std.proofs.Common.{◌≡◌, map, ap, ◌∙◌}
use Rattle.std.proofs.lemmas.Result.{err_from_is_err_and}
use Rattle.dcx_call.specs.declared.call.Call.TheVariants.{Atom}
use Rattle.dcx_script_values.specs.Nodes.{broadcast_called}
use Rattle.dcx_script_values.specs.Kinds.{reading}
use Rattle.dcx_script_values.specs.Meant.{meant}
use Rattle.dcx_script_values.specs.View.{read_as, meant_operand}
use Rattle.dcx_functions.specs.Calls.{of_several}
use Rattle.dcx_functions.proofs.ArgumentsSeen.{all-read}
use Rattle.dcx_functions.proofs.Steps.{read_fault, made_fault, made_is}
use Rattle.dcx_functions.proofs.expressions.several.Goals as goal
use Rattle.dcx_script_values.proofs.Acts.{Gives-err}

pub returns-in_err-operands : goal.returns-in_err-operands
returns-in_err-operands c =
    let b = c.args.bound.now in
    let same : map read_as c.in_ok-readings.readings.items ≡ map (λ p. reading p.1) b = c.in_ok-readings.ensures ∙ all-read c.arguments.result.now b c.arguments.ensures in
    let e = c.in_err-operands.field-0.0 in
    let p = err_from_is_err_and c.from_residual-in_err-operands.result c.from_residual-in_err-operands.ensures.1 in
    Gives-err meant c.from_residual-in_err-operands.result c.args.state.now (of_several c.args.place c.args.call b c.args.state.now) p.0 e p.1 p.2
    (read_fault (broadcast_called c.args.place (Atom c.args.call)) c.args.place (map read_as c.in_ok-readings.readings.items) (map (λ p. reading p.1) b) same c.args.state.now e
    (c.in_err-operands.ensures c.args.state.now))

pub returns-in_err-node : goal.returns-in_err-node
returns-in_err-node c =
    let b = c.args.bound.now in
    let same : map read_as c.in_ok-readings.readings.items ≡ map (λ p. reading p.1) b = c.in_ok-readings.ensures ∙ all-read c.arguments.result.now b c.arguments.ensures in
    let e = c.in_err-node.field-0.0 in
    let p = err_from_is_err_and c.from_residual-in_err-node.result c.from_residual-in_err-node.ensures.1 in
    Gives-err meant c.from_residual-in_err-node.result c.broadcast_called.new.self (of_several c.args.place c.args.call b c.args.state.now) p.0 e p.1 p.2
    (made_fault (broadcast_called c.args.place (Atom c.args.call)) c.args.place (map read_as c.in_ok-readings.readings.items) (map (λ p. reading p.1) b) same c.args.state.now
    (map meant_operand c.in_ok-operands.operands.items) (map meant_operand c.deref.result.now) (ap (map meant_operand) c.deref.ensures.value) (c.in_ok-operands.ensures c.args.state.now)
    e c.in_err-node.ensures)

pub returns : goal.returns
returns c =
    let b = c.args.bound.now in
    let same : map read_as c.in_ok-readings.readings.items ≡ map (λ p. reading p.1) b = c.in_ok-readings.ensures ∙ all-read c.arguments.result.now b c.arguments.ensures in
    made_is (broadcast_called c.args.place (Atom c.args.call)) c.args.place (map read_as c.in_ok-readings.readings.items) (map (λ p. reading p.1) b) same c.args.state.now
    (map meant_operand c.in_ok-operands.operands.items) (map meant_operand c.deref.result.now) (ap (map meant_operand) c.deref.ensures.value) (c.in_ok-operands.ensures c.args.state.now)
    c.in_ok-node.node.0 c.broadcast_called.new.self c.in_ok-node.ensures
