-- The arguments come first, and then the call.
use Rattle.std.proofs.Common.{map, sym, subst}
use Rattle.std.proofs.lemmas.Result.{err_from_is_err_and}
use Rattle.dcx_arena.specs.declared.node.NodeId.{NodeId}
use Rattle.dcx_arena.specs.Nodes.{positions}
use Rattle.dcx_script_values.specs.View.{meant_operand, Gives}
use Rattle.dcx_script_values.proofs.Acts.{Gives-err}
use Rattle.dcx_script_state.proofs.Each.{called_fault, called_is}
use Rattle.dcx_script_state.proofs.state.State.called.Goals as goal

pub returns-in_err-args : goal.returns-in_err-args
returns-in_err-args c =
    let p = err_from_is_err_and c.from_residual.result c.from_residual.ensures.1 in
    Gives-err (λ (i : NodeId). i.0) c.from_residual.result c.called_args.new.self _ p.0 c.in_err-args.field-0.0 p.1 p.2
    (called_fault c.args.place c.args.call (map meant_operand c.args.operands.now) c.args.self.now c.in_err-args.field-0.0 c.in_err-args.ensures)

pub returns : goal.returns
returns c =
    subst (Gives (λ (i : NodeId). i.0) c.push.result c.push.new.self)
    (sym (called_is c.args.place c.args.call (map meant_operand c.args.operands.now) c.args.self.now (positions c.in_ok-args.args.items) c.called_args.new.self c.in_ok-args.ensures))
    (rw c.deref.ensures.value at c.push.ensures)
