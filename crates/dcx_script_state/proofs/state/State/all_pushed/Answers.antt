-- Each node comes behind the others, or its fault ends them.
use Rattle.std.proofs.Common.{List, map, refl, arith, rules, Vec, Global}
use Rattle.std.proofs.lemmas.Result.{err_from_is_err_and}
use Rattle.dcx_arena.specs.declared.node.NodeId.{NodeId}
use Rattle.dcx_arena.specs.Nodes.{positions}
use Rattle.dcx_script_values.specs.declared.reading.Operand.{Operand}
use Rattle.dcx_script_values.specs.Nodes.{pushed, all_pushed}
use Rattle.dcx_script_values.specs.View.{meant_operand}
use Rattle.dcx_script_values.proofs.Acts.{Gives-err}
use Rattle.dcx_script_state.proofs.Each.{each_next, each_fault, each_all}
use Rattle.dcx_script_state.proofs.state.State.all_pushed.Goals as goal

pub loop-operand-smaller : goal.loop-operand-smaller
loop-operand-smaller c = search rules

pub loop-operand-preserved : goal.loop-operand-preserved
loop-operand-preserved c =
    each_next (λ (x : Operand). pushed c.args.place (meant_operand x)) (λ (xs : List Operand). all_pushed c.args.place (map meant_operand xs)) (λ s. refl) (λ x xs s. refl) c.args.operands.now
    c.loop-operand.operand-index c.operand-item.result c.loop-operand.nodes.items c.loop-operand.self _ c.loop-operand-test.true c.operand-item.is c.loop-operand.invariant
    c.in_ok-pushed.field-0 _ c.pushed.new.self c.in_ok-pushed.ensures c.in_ok-push.ensures.items

pub returns-in_err-pushed : goal.returns-in_err-pushed
returns-in_err-pushed c =
    let p = err_from_is_err_and c.from_residual-in_err-pushed.result c.from_residual-in_err-pushed.ensures.1 in
    Gives-err (λ (v : Vec NodeId Global). positions v.items) c.from_residual-in_err-pushed.result c.pushed.new.self _ p.0 c.in_err-pushed.field-0.0 p.1 p.2
    (each_fault (λ (x : Operand). pushed c.args.place (meant_operand x)) (λ (xs : List Operand). all_pushed c.args.place (map meant_operand xs)) (λ s. refl) (λ x xs s. refl) c.args.operands.now
    c.loop-operand.operand-index c.operand-item.result c.loop-operand.nodes.items c.loop-operand.self _ c.loop-operand-test.true c.operand-item.is c.loop-operand.invariant
    c.in_err-pushed.field-0.0 c.in_err-pushed.ensures)

pub returns : goal.returns
returns c =
    each_all (λ (x : Operand). pushed c.args.place (meant_operand x)) (λ (xs : List Operand). all_pushed c.args.place (map meant_operand xs)) (λ s. refl) (λ x xs s. refl) c.args.operands.now
    c.loop-operand.operand-index c.loop-operand.nodes.items c.loop-operand.self _ (omega arith) c.loop-operand.invariant
