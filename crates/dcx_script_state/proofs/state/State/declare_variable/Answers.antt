-- Each step of the declaration is that of the definition, with the same fault.
use Rattle.std.proofs.lemmas.Result.{err_from_is_err_and}
use Rattle.dcx_script_values.specs.Meant.{meant}
use Rattle.dcx_script_values.specs.View.{extent_sides}
use Rattle.dcx_script_values.proofs.Acts.{Gives-err}
use Rattle.dcx_script_state.proofs.Declares.{variable_refused, variable_new, variable_square, variable_fault, variable_is}
use Rattle.dcx_script_state.proofs.state.State.declare_variable.Goals as goal

pub returns-in_err-test_variable : goal.returns-in_err-test_variable
returns-in_err-test_variable c =
    let p = err_from_is_err_and c.from_residual.result c.from_residual.ensures.1 in
    Gives-err meant c.from_residual.result c.args.self.now _ p.0 c.in_err-test_variable.field-0.0 p.1 p.2
    (variable_refused c.args.place c.args.name.now (extent_sides c.args.extent) c.args.flags c.args.self.now c.in_err-test_variable.field-0.0 c.in_err-test_variable.ensures)

pub new_variable-requires : goal.new_variable-requires
new_variable-requires c = record {
  new = variable_new c.args.place c.args.name.now (extent_sides c.args.extent) c.args.flags c.args.self.now c.in_ok-test_variable.ensures;
  square = variable_square c.args.place c.args.name.now (extent_sides c.args.extent) c.args.flags c.args.self.now c.in_ok-test_variable.ensures;
}

pub returns-in_err-node : goal.returns-in_err-node
returns-in_err-node c =
    let p = err_from_is_err_and c.from_residual-in_err-node.result c.from_residual-in_err-node.ensures.1 in
    Gives-err meant c.from_residual-in_err-node.result c.new_variable.new.self _ p.0 c.in_err-node.field-0.0 p.1 p.2
    (variable_fault c.args.place c.args.name.now (extent_sides c.args.extent) c.args.flags c.args.self.now c.in_ok-test_variable.ensures c.in_err-node.field-0.0 c.in_err-node.ensures)

pub returns : goal.returns
returns c =
    variable_is c.args.place c.args.name.now (extent_sides c.args.extent) c.args.flags c.args.self.now c.in_ok-test_variable.ensures c.in_ok-node.node.0 c.new_variable.new.self c.in_ok-node.ensures
