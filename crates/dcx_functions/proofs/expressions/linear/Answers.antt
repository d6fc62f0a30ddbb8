-- The operand comes first, and then the call of it.
use Rattle.std.proofs.Common.{[], ◌∷◌, Result, sym, subst}
use Rattle.dcx_call.specs.declared.call.Call.TheVariants.{Linear}
use Rattle.dcx_script_values.specs.declared.fault.ElabFault.{ElabFault}
use Rattle.dcx_script_values.specs.Values.{Value, State}
use Rattle.dcx_script_values.specs.Nodes.{called}
use Rattle.dcx_script_values.specs.Operands.{as_expression}
use Rattle.dcx_script_values.specs.Meant.{meant}
use Rattle.dcx_script_values.specs.View.{meant_operand, Gives}
use Rattle.dcx_script_values.proofs.Acts.{then_is}
use Rattle.dcx_functions.specs.Calls.{operand_for}
use Rattle.dcx_functions.proofs.expressions.linear.Goals as goal

pub returns : goal.returns
returns c =
    let s = c.args.state.now in
    subst (λ (m : Result (Value × State) ElabFault). Gives meant c.called_on.result c.called_on.new.state m)
    (sym (then_is (operand_for c.args.place c.args.word.now c.args.bound.now s) (λ x. as_expression (called c.args.place (Linear c.args.call) (x ∷ [])))
    (meant_operand c.in_ok-operand.operand) s (c.in_ok-operand.ensures s)))
    c.called_on.ensures
