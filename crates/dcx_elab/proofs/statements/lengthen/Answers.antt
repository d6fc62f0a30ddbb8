-- What is bound last is bound alone.
use Rattle.std.proofs.Common.{sym, subst, Result}
use Rattle.dcx_script_values.specs.declared.fault.ElabFault.{ElabFault}
use Rattle.dcx_script_values.specs.Values.{State}
use Rattle.dcx_script_values.specs.View.{Gives}
use Rattle.dcx_elab.proofs.Lines.{lengthened}
use Rattle.dcx_elab.proofs.statements.lengthen.Goals as goal

pub returns : goal.returns
returns c =
    subst (λ (r : Result (Unit {0} × State) ElabFault). Gives (λ _. tt) c.bind-2.result c.bind-2.new.self r)
    (sym (lengthened c.args.name.now c.args.place c.args.first.value c.args.second.now c.in_ok-all.all.value c.args.state.now c.bind.new.self c.in_ok-bind.ensures
    (c.in_ok-all.ensures c.args.state.now)))
    c.bind-2.ensures
