-- What is declared is what is given.
use Rattle.std.proofs.Common.{◌≡◌, Some, Result, option_map, ap, subst}
use Rattle.std.specs.Option.{option_copied}
use Rattle.dcx_script_values.specs.declared.fault.ElabFault.{ElabFault}
use Rattle.dcx_script_values.specs.Values.{Value, State}
use Rattle.dcx_script_values.specs.Meant.{meant}
use Rattle.dcx_script_values.specs.View.{extent_sides, read_as, Gives}
use Rattle.dcx_functions.proofs.Declares.{parameter_given}
use Rattle.dcx_functions.proofs.declared.parameter.Goals as goal

pub returns : goal.returns
returns c =
    let named : option_copied c.args.target ≡ Some c.in-Some.name.now = ap option_copied c.in-Some.is in
    subst (λ (m : Result (Value × State) ElabFault). Gives meant c.declare_parameter.result c.declare_parameter.new.self m)
    (parameter_given c.args.place (option_copied c.args.target) c.args.bound.now c.in-Some.name.now
    (extent_sides c.declared_extent.result) c.flags.result c.args.state.now named c.declared_extent.ensures c.flags.ensures
    c.names_unoffered.result (option_map read_as c.in_ok-value.value) c.names_unoffered.ensures c.in_ok-value.ensures)
    c.declare_parameter.ensures
