-- Each step of the declaration is that of the definition, with the same fault.
use Rattle.std.proofs.Common.{option_map}
use Rattle.std.proofs.lemmas.Result.{err_from_is_err_and}
use Rattle.dcx_script_values.specs.Meant.{meant}
use Rattle.dcx_script_values.specs.View.{extent_sides, read_as}
use Rattle.dcx_script_values.proofs.Acts.{Gives-err}
use Rattle.dcx_script_state.proofs.Declares.{parameter_refused, parameter_new, parameter_first_fault, parameter_fault, parameter_set_fault, parameter_is}
use Rattle.dcx_script_state.proofs.state.State.declare_parameter.Goals as goal

pub returns-in_err-test_parameter : goal.returns-in_err-test_parameter
returns-in_err-test_parameter c =
    let p = err_from_is_err_and c.from_residual.result c.from_residual.ensures.1 in
    Gives-err meant c.from_residual.result c.args.self.now _ p.0 c.in_err-test_parameter.field-0.0 p.1 p.2
    (parameter_refused c.args.place c.args.name.now (extent_sides c.args.extent) c.args.flags.nonneg c.args.flags.nonpos c.args.unoffered (option_map read_as c.args.value)
    c.args.self.now c.in_err-test_parameter.field-0.0 c.in_err-test_parameter.ensures)

pub returns-in_err-first : goal.returns-in_err-first
returns-in_err-first c =
    let p = err_from_is_err_and c.from_residual-in_err-first.result c.from_residual-in_err-first.ensures.1 in
    Gives-err meant c.from_residual-in_err-first.result c.args.self.now _ p.0 c.in_err-first.field-0.0 p.1 p.2
    (parameter_first_fault c.args.place c.args.name.now (extent_sides c.args.extent) c.args.flags.nonneg c.args.flags.nonpos c.args.unoffered (option_map read_as c.args.value)
    c.args.self.now c.in_ok-test_parameter.ensures c.in_err-first.field-0.0 (c.in_err-first.ensures c.args.self.now))

pub new_parameter-requires : goal.new_parameter-requires
new_parameter-requires c =
    parameter_new c.args.place c.args.name.now (extent_sides c.args.extent) c.args.flags.nonneg c.args.flags.nonpos c.args.unoffered (option_map read_as c.args.value)
    c.args.self.now c.in_ok-test_parameter.ensures

pub returns-in_err-node : goal.returns-in_err-node
returns-in_err-node c =
    let p = err_from_is_err_and c.from_residual-in_err-node.result c.from_residual-in_err-node.ensures.1 in
    Gives-err meant c.from_residual-in_err-node.result c.new_parameter.new.self _ p.0 c.in_err-node.field-0.0 p.1 p.2
    (parameter_fault c.args.place c.args.name.now (extent_sides c.args.extent) c.args.flags.nonneg c.args.flags.nonpos c.args.unoffered (option_map read_as c.args.value)
    c.args.self.now c.in_ok-test_parameter.ensures (option_map (λ a. a.value) c.in_ok-first.first) (c.in_ok-first.ensures c.args.self.now) c.in_err-node.field-0.0 c.in_err-node.ensures)

pub returns-in_err-set_first : goal.returns-in_err-set_first
returns-in_err-set_first c =
    let p = err_from_is_err_and c.from_residual-in_err-set_first.result c.from_residual-in_err-set_first.ensures.1 in
    Gives-err meant c.from_residual-in_err-set_first.result c.set_first.new.self _ p.0 c.in_err-set_first.field-0.0 p.1 p.2
    (parameter_set_fault c.args.place c.args.name.now (extent_sides c.args.extent) c.args.flags.nonneg c.args.flags.nonpos c.args.unoffered (option_map read_as c.args.value)
    c.args.self.now c.in_ok-test_parameter.ensures (option_map (λ a. a.value) c.in_ok-first.first) (c.in_ok-first.ensures c.args.self.now)
    c.in_ok-node.node.0 c.new_parameter.new.self c.in_ok-node.ensures c.in_err-set_first.field-0.0 c.in_err-set_first.ensures)

pub returns : goal.returns
returns c =
    parameter_is c.args.place c.args.name.now (extent_sides c.args.extent) c.args.flags.nonneg c.args.flags.nonpos c.args.unoffered (option_map read_as c.args.value)
    c.args.self.now c.in_ok-test_parameter.ensures (option_map (λ a. a.value) c.in_ok-first.first) (c.in_ok-first.ensures c.args.self.now)
    c.in_ok-node.node.0 c.new_parameter.new.self c.in_ok-node.ensures c.set_first.new.self c.in_ok-set_first.ensures
