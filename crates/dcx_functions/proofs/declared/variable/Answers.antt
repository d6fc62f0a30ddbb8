-- What is declared is what is given.
use Rattle.std.proofs.Common.{◌≡◌, Some, Result, ap, subst}
use Rattle.std.specs.Option.{option_copied}
use Rattle.dcx_script_values.specs.declared.fault.ElabFault.{ElabFault}
use Rattle.dcx_script_values.specs.Values.{Value, State}
use Rattle.dcx_script_values.specs.Meant.{meant}
use Rattle.dcx_script_values.specs.View.{extent_sides, Gives}
use Rattle.dcx_functions.proofs.Declares.{variable_given}
use Rattle.dcx_functions.proofs.declared.variable.Goals as goal

pub returns-in-Some : goal.returns-in-Some
returns-in-Some c =
    let named : option_copied c.args.target ≡ Some c.in-Some.name.now = ap option_copied c.in-Some.is in
    subst (λ (m : Result (Value × State) ElabFault). Gives meant c.declare_variable.result c.declare_variable.new.self m)
    (variable_given c.args.place (option_copied c.args.target) c.args.bound.now c.in-Some.name.now
    (extent_sides c.declared_extent.result) c.flags.result c.args.state.now named c.declared_extent.ensures c.flags.ensures)
    c.declare_variable.ensures
