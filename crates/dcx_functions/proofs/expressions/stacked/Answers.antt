-- The items are read in their order, and the node is made of them.
use Rattle.std.proofs.Common.{◌≡◌, ◌∙◌, ℕ, List, map, length, nat_eq, false, sym, ap}
use Rattle.std.proofs.lemmas.List.{length-map}
use Rattle.std.proofs.lemmas.Result.{err_from_is_err_and}
use Rattle.dcx_call.specs.declared.call.Call.TheVariants.{Linear}
use Rattle.dcx_script_values.specs.Values.{Value}
use Rattle.dcx_script_values.specs.Nodes.{called}
use Rattle.dcx_script_values.specs.Kinds.{reading}
use Rattle.dcx_script_values.specs.Meant.{meant}
use Rattle.dcx_script_values.specs.View.{read_as, meant_operand}
use Rattle.dcx_script_values.proofs.Acts.{Fails-same, Gives-err}
use Rattle.dcx_signature.specs.Table.{list_word}
use Rattle.dcx_functions.specs.Calls.{items_for, stacked}
use Rattle.dcx_functions.proofs.Steps.{read_and_made, read_fault, made_fault, made_is, stacked_some}
use Rattle.dcx_functions.proofs.expressions.stacked.Goals as goal

pub returns-in_err-operands : goal.returns-in_err-operands
returns-in_err-operands c =
    let vs = items_for list_word c.args.bound.now in
    let xs = c.items_for-values.result.now in
    let some : nat_eq (length vs) 0 ≡ false =
    sym (ap (λ (l : List Value). nat_eq (length l) 0) c.items_for-values.ensures.items) ∙ (ap (λ (n : ℕ). nat_eq n 0) (length-map xs meant) ∙ (sym c.is_empty.ensures ∙ c.if-is_empty.false)) in
    let same : map read_as c.in_ok-readings.readings.items ≡ map reading vs = c.in_ok-readings.ensures ∙ ap (map reading) c.items_for-values.ensures.items in
    let make = called c.args.place (Linear c.args.call) in
    let e = c.in_err-operands.field-0.0 in
    let p = err_from_is_err_and c.from_residual-in_err-operands.result c.from_residual-in_err-operands.ensures.1 in
    Gives-err meant c.from_residual-in_err-operands.result c.args.state.now (stacked c.args.place c.args.call vs c.args.state.now) p.0 e p.1 p.2
    (Fails-same e (read_and_made make c.args.place (map reading vs) c.args.state.now) (stacked c.args.place c.args.call vs c.args.state.now)
    (stacked_some c.args.place c.args.call vs c.args.state.now some)
    (read_fault make c.args.place (map read_as c.in_ok-readings.readings.items) (map reading vs) same c.args.state.now e (c.in_err-operands.ensures c.args.state.now)))

pub returns-in_err-node : goal.returns-in_err-node
returns-in_err-node c =
    let vs = items_for list_word c.args.bound.now in
    let xs = c.items_for-values.result.now in
    let some : nat_eq (length vs) 0 ≡ false =
    sym (ap (λ (l : List Value). nat_eq (length l) 0) c.items_for-values.ensures.items) ∙ (ap (λ (n : ℕ). nat_eq n 0) (length-map xs meant) ∙ (sym c.is_empty.ensures ∙ c.if-is_empty.false)) in
    let same : map read_as c.in_ok-readings.readings.items ≡ map reading vs = c.in_ok-readings.ensures ∙ ap (map reading) c.items_for-values.ensures.items in
    let make = called c.args.place (Linear c.args.call) in
    let e = c.in_err-node.field-0.0 in
    let p = err_from_is_err_and c.from_residual-in_err-node.result c.from_residual-in_err-node.ensures.1 in
    Gives-err meant c.from_residual-in_err-node.result c.called.new.self (stacked c.args.place c.args.call vs c.args.state.now) p.0 e p.1 p.2
    (Fails-same e (read_and_made make c.args.place (map reading vs) c.args.state.now) (stacked c.args.place c.args.call vs c.args.state.now)
    (stacked_some c.args.place c.args.call vs c.args.state.now some)
    (made_fault make c.args.place (map read_as c.in_ok-readings.readings.items) (map reading vs) same c.args.state.now
    (map meant_operand c.in_ok-operands.operands.items) (map meant_operand c.deref.result.now) (ap (map meant_operand) c.deref.ensures.value) (c.in_ok-operands.ensures c.args.state.now)
    e c.in_err-node.ensures))

pub returns : goal.returns
returns c =
    let vs = items_for list_word c.args.bound.now in
    let xs = c.items_for-values.result.now in
    let some : nat_eq (length vs) 0 ≡ false =
    sym (ap (λ (l : List Value). nat_eq (length l) 0) c.items_for-values.ensures.items) ∙ (ap (λ (n : ℕ). nat_eq n 0) (length-map xs meant) ∙ (sym c.is_empty.ensures ∙ c.if-is_empty.false)) in
    let same : map read_as c.in_ok-readings.readings.items ≡ map reading vs = c.in_ok-readings.ensures ∙ ap (map reading) c.items_for-values.ensures.items in
    let make = called c.args.place (Linear c.args.call) in
    stacked_some c.args.place c.args.call vs c.args.state.now some
    ∙ made_is make c.args.place (map read_as c.in_ok-readings.readings.items) (map reading vs) same c.args.state.now
    (map meant_operand c.in_ok-operands.operands.items) (map meant_operand c.deref.result.now) (ap (map meant_operand) c.deref.ensures.value) (c.in_ok-operands.ensures c.args.state.now)
    c.in_ok-node.node.0 c.called.new.self c.in_ok-node.ensures
