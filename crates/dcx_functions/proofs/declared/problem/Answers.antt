-- The objective and the constraints are those that are given.
use Rattle.std.proofs.Common.{◌≡◌, ◌∙◌, Bor, List, Option, Some, Result, option_map, sym, ap, ap₂, subst}
use Rattle.std.specs.Option.{option_copied}
use Rattle.dcx_script_values.specs.declared.value.Value as code_value
use Rattle.dcx_script_values.specs.declared.fault.ElabFault.{ElabFault}
use Rattle.dcx_script_values.specs.Values.{Value, objective, State}
use Rattle.dcx_script_values.specs.Meant.{meant}
use Rattle.dcx_script_values.specs.View.{Gives}
use Rattle.dcx_script_state.specs.Declarations.{make_problem}
use Rattle.dcx_signature.specs.Arguments.{or_nothing, value_for}
use Rattle.dcx_signature.specs.Table.{objective_word}
use Rattle.dcx_functions.proofs.declared.problem.Goals as goal

pub returns-in-Some-Objective : goal.returns-in-Some-Objective
returns-in-Some-Objective c =
    let o = c.in-Some-Objective.objective in
    let asked : objective o.sense o.node.0 o.place ≡ value_for objective_word c.args.bound.now =
    ap or_nothing
    (sym (ap (λ (v : code_value.Value). Some (meant v)) c.in-Some-Objective.field-0-is)
    ∙ (sym (ap (λ (r : Option (Bor code_value.Value)). option_map meant (option_copied r)) c.in-Some-Objective.is) ∙ c.given.ensures)) in
    subst (λ (m : Result (Value × State) ElabFault). Gives meant c.make_problem.result c.make_problem.new.self m)
    (ap₂ (λ (v : Value) (vs : List Value). make_problem c.args.place v vs c.args.state.now) asked c.items_for.ensures.items)
    c.make_problem.ensures
