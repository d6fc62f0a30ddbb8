-- Each call forms its own entries.
use Rattle.std.proofs.Common.{◌≡◌, ◌+◌, Some, refl, ap, ◌∙◌}
use Rattle.dcx_arena.specs.Nodes.{sides_at}
use Rattle.dcx_call.specs.declared.call.Call.TheVariants as calls
use Rattle.dcx_entries.specs.Standing.{all_forms}
use Rattle.dcx_nodes.specs.Given.{first_marked}
use Rattle.dcx_nodes.specs.Formed.{ValueGives, ReducedGives}
use Rattle.dcx_nodes.proofs.Standings.{forms_sides, forms_by, forms_on, value_sides, value_by, standing_weaker, next_stays, constant_given, constant_gives}
use Rattle.dcx_nodes.proofs.node.form_reduced.Goals as goal

pub returns-in-Variable-clause-sides : goal.returns-in-Variable-clause-sides
returns-in-Variable-clause-sides g c =
    let t = g.C.Coef in
    forms_sides t.of_number c.variable_node.result c.as_forms.result c.as_forms.ensures (sides_at c.args.given.now.problem.now.tree c.args.node.0) c.variable_node.ensures.count

pub returns-in-Variable-clause-entries : goal.returns-in-Variable-clause-entries
returns-in-Variable-clause-entries g c =
    let t = g.C.Coef in
    forms_by t.of_number c.variable_node.result c.as_forms.result c.as_forms.ensures
    (ReducedGives t.of_number t.number_of t.sum_gives t.change_gives t.parameter_gives c.args.given.now.problem.now c.args.given.now.setting.now c.args.given.now.reduced.now
    c.args.given.now.fixed.now (all_forms t.of_number c.args.args.now.standing.now) c.args.node.0) (c.variable_node.ensures.entries (all_forms t.of_number c.args.args.now.standing.now))

pub returns-in-Variable-clause-next : goal.returns-in-Variable-clause-next
returns-in-Variable-clause-next g c =
    next_stays c.args.given.now.problem.now c.args.given.now.reduced.now c.args.node.0 c.args.next.now c.requires.next c.requires.reduced (calls.Variable c.in-Variable.variable)
    (c.call.ensures ∙ ap Some c.in-Variable.is) (λ n. refl) c.as_forms.result

pub returns-in-Parameter-clause-sides : goal.returns-in-Parameter-clause-sides
returns-in-Parameter-clause-sides g c =
    let t = g.C.Coef in
    forms_sides t.of_number c.parameter_node.result c.as_forms-in-Parameter.result c.as_forms-in-Parameter.ensures
    (sides_at c.args.given.now.problem.now.tree c.args.node.0) c.parameter_node.ensures.count

pub returns-in-Parameter-clause-entries : goal.returns-in-Parameter-clause-entries
returns-in-Parameter-clause-entries g c =
    let t = g.C.Coef in
    forms_by t.of_number c.parameter_node.result c.as_forms-in-Parameter.result c.as_forms-in-Parameter.ensures
    (ReducedGives t.of_number t.number_of t.sum_gives t.change_gives t.parameter_gives c.args.given.now.problem.now c.args.given.now.setting.now c.args.given.now.reduced.now
    c.args.given.now.fixed.now (all_forms t.of_number c.args.args.now.standing.now) c.args.node.0) (c.parameter_node.ensures.entries (all_forms t.of_number c.args.args.now.standing.now))

pub returns-in-Parameter-clause-next : goal.returns-in-Parameter-clause-next
returns-in-Parameter-clause-next g c =
    next_stays c.args.given.now.problem.now c.args.given.now.reduced.now c.args.node.0 c.args.next.now c.requires.next c.requires.reduced (calls.Parameter c.in-Parameter.parameter)
    (c.call.ensures ∙ ap Some c.in-Parameter.is) (λ n. refl) c.as_forms-in-Parameter.result

pub returns-in-Linear-clause-sides : goal.returns-in-Linear-clause-sides
returns-in-Linear-clause-sides g c =
    let t = g.C.Coef in
    forms_sides t.of_number c.linear_node.result c.as_forms-in-Linear.result c.as_forms-in-Linear.ensures (sides_at c.args.given.now.problem.now.tree c.args.node.0) c.linear_node.ensures.count

pub returns-in-Linear-clause-entries : goal.returns-in-Linear-clause-entries
returns-in-Linear-clause-entries g c =
    let t = g.C.Coef in
    forms_by t.of_number c.linear_node.result c.as_forms-in-Linear.result c.as_forms-in-Linear.ensures
    (ReducedGives t.of_number t.number_of t.sum_gives t.change_gives t.parameter_gives c.args.given.now.problem.now c.args.given.now.setting.now c.args.given.now.reduced.now
    c.args.given.now.fixed.now (all_forms t.of_number c.args.args.now.standing.now) c.args.node.0) (c.linear_node.ensures.entries)

pub returns-in-Linear-clause-next : goal.returns-in-Linear-clause-next
returns-in-Linear-clause-next g c =
    next_stays c.args.given.now.problem.now c.args.given.now.reduced.now c.args.node.0 c.args.next.now c.requires.next c.requires.reduced (calls.Linear c.in-Linear.call)
    (c.call.ensures ∙ ap Some c.in-Linear.is) (λ n. refl) c.as_forms-in-Linear.result

pub returns-in-Pairing-clause-sides : goal.returns-in-Pairing-clause-sides
returns-in-Pairing-clause-sides g c =
    let t = g.C.Coef in
    forms_sides t.of_number c.pairing_node.result c.as_forms-in-Pairing.result c.as_forms-in-Pairing.ensures (sides_at c.args.given.now.problem.now.tree c.args.node.0) c.pairing_node.ensures.count

pub returns-in-Pairing-clause-entries : goal.returns-in-Pairing-clause-entries
returns-in-Pairing-clause-entries g c =
    let t = g.C.Coef in
    forms_by t.of_number c.pairing_node.result c.as_forms-in-Pairing.result c.as_forms-in-Pairing.ensures
    (ReducedGives t.of_number t.number_of t.sum_gives t.change_gives t.parameter_gives c.args.given.now.problem.now c.args.given.now.setting.now c.args.given.now.reduced.now
    c.args.given.now.fixed.now (all_forms t.of_number c.args.args.now.standing.now) c.args.node.0) (c.pairing_node.ensures.entries)

pub returns-in-Pairing-clause-next : goal.returns-in-Pairing-clause-next
returns-in-Pairing-clause-next g c =
    next_stays c.args.given.now.problem.now c.args.given.now.reduced.now c.args.node.0 c.args.next.now c.requires.next c.requires.reduced (calls.Pairing c.in-Pairing.pairing)
    (c.call.ensures ∙ ap Some c.in-Pairing.is) (λ n. refl) c.as_forms-in-Pairing.result

pub node_value-requires-clause-given : goal.node_value-requires-clause-given
node_value-requires-clause-given g c =
    let t = g.C.Coef in
    constant_given c.args.given.now.problem.now c.args.node.0 c.in-Constant.field-0 c.args.given.now.setting.now (c.call.ensures ∙ ap Some c.in-Constant.is)

pub returns-in-Constant-clause-sides : goal.returns-in-Constant-clause-sides
returns-in-Constant-clause-sides g c =
    let t = g.C.Coef in
    value_sides t.of_number c.node_value.result c.as_value.result c.as_value.ensures (sides_at c.args.given.now.problem.now.tree c.args.node.0) c.node_value.ensures.sides

pub returns-in-Constant-clause-entries : goal.returns-in-Constant-clause-entries
returns-in-Constant-clause-entries g c =
    let t = g.C.Coef in
    standing_weaker t.of_number c.as_value.result (ValueGives t.of_number t.number_of t.sum_gives t.change_gives t.parameter_gives c.args.given.now.problem.now c.args.given.now.setting.now
    (all_forms t.of_number c.args.args.now.standing.now) c.args.node.0)
    (ReducedGives t.of_number t.number_of t.sum_gives t.change_gives t.parameter_gives c.args.given.now.problem.now c.args.given.now.setting.now c.args.given.now.reduced.now
    c.args.given.now.fixed.now (all_forms t.of_number c.args.args.now.standing.now) c.args.node.0)
    (λ r h. constant_gives t.of_number t.number_of t.sum_gives t.change_gives t.parameter_gives c.args.given.now.problem.now c.args.given.now.setting.now c.args.given.now.reduced.now
    c.args.given.now.fixed.now (all_forms t.of_number c.args.args.now.standing.now) c.args.node.0 r
    c.in-Constant.field-0 (c.call.ensures ∙ ap Some c.in-Constant.is) h)
    (value_by t.of_number c.node_value.result c.as_value.result c.as_value.ensures
    (ValueGives t.of_number t.number_of t.sum_gives t.change_gives t.parameter_gives c.args.given.now.problem.now c.args.given.now.setting.now
    (all_forms t.of_number c.args.args.now.standing.now) c.args.node.0) c.node_value.ensures.value)

pub returns-in-Constant-clause-next : goal.returns-in-Constant-clause-next
returns-in-Constant-clause-next g c =
    next_stays c.args.given.now.problem.now c.args.given.now.reduced.now c.args.node.0 c.args.next.now c.requires.next c.requires.reduced (calls.Constant c.in-Constant.field-0)
    (c.call.ensures ∙ ap Some c.in-Constant.is) (λ n. refl) c.as_value.result

pub atom_node-requires-clause-call : goal.atom_node-requires-clause-call
atom_node-requires-clause-call g c =
    let t = g.C.Coef in
    (c.in-Atom.field-0, c.call.ensures ∙ ap Some c.in-Atom.is)

pub returns-in-Atom-clause-sides : goal.returns-in-Atom-clause-sides
returns-in-Atom-clause-sides g c =
    let t = g.C.Coef in
    forms_sides t.of_number c.atom_node.result c.as_forms-in-Atom.result c.as_forms-in-Atom.ensures (sides_at c.args.given.now.problem.now.tree c.args.node.0) c.atom_node.ensures.count

pub returns-in-Atom-clause-entries : goal.returns-in-Atom-clause-entries
returns-in-Atom-clause-entries g c =
    let t = g.C.Coef in
    forms_by t.of_number c.atom_node.result c.as_forms-in-Atom.result c.as_forms-in-Atom.ensures
    (ReducedGives t.of_number t.number_of t.sum_gives t.change_gives t.parameter_gives c.args.given.now.problem.now c.args.given.now.setting.now c.args.given.now.reduced.now
    c.args.given.now.fixed.now (all_forms t.of_number c.args.args.now.standing.now) c.args.node.0) c.atom_node.ensures.entries

pub returns-in-Atom-clause-next : goal.returns-in-Atom-clause-next
returns-in-Atom-clause-next g c =
    let t = g.C.Coef in
    forms_on t.of_number c.atom_node.result c.as_forms-in-Atom.result c.as_forms-in-Atom.ensures
    (c.atom_node.new.next ≡ first_marked c.args.given.now.problem.now c.args.given.now.reduced.now (c.args.node.0 + 1)) c.atom_node.ensures.next

pub variable_node-requires-clause-ready : goal.variable_node-requires-clause-ready
variable_node-requires-clause-ready g c = c.requires.ready

pub variable_node-requires-clause-call : goal.variable_node-requires-clause-call
variable_node-requires-clause-call g c = c.call.ensures ∙ ap Some c.in-Variable.is

pub parameter_node-requires-clause-ready : goal.parameter_node-requires-clause-ready
parameter_node-requires-clause-ready g c = c.requires.ready

pub parameter_node-requires-clause-call : goal.parameter_node-requires-clause-call
parameter_node-requires-clause-call g c = c.call.ensures ∙ ap Some c.in-Parameter.is

pub parameter_node-requires-clause-reduced : goal.parameter_node-requires-clause-reduced
parameter_node-requires-clause-reduced g c = c.requires.reduced

pub node_value-requires-clause-there : goal.node_value-requires-clause-there
node_value-requires-clause-there g c = c.requires.there

pub node_value-requires-clause-ids : goal.node_value-requires-clause-ids
node_value-requires-clause-ids g c = c.requires.ids

pub node_value-requires-clause-before : goal.node_value-requires-clause-before
node_value-requires-clause-before g c = c.requires.before

pub node_value-requires-clause-sides : goal.node_value-requires-clause-sides
node_value-requires-clause-sides g c = c.requires.sides

pub atom_node-requires-clause-ready : goal.atom_node-requires-clause-ready
atom_node-requires-clause-ready g c = c.requires.ready

pub atom_node-requires-clause-ids : goal.atom_node-requires-clause-ids
atom_node-requires-clause-ids g c = c.requires.ids

pub atom_node-requires-clause-reduced : goal.atom_node-requires-clause-reduced
atom_node-requires-clause-reduced g c = c.requires.reduced

pub atom_node-requires-clause-next : goal.atom_node-requires-clause-next
atom_node-requires-clause-next g c = c.requires.next

pub linear_node-requires-clause-call : goal.linear_node-requires-clause-call
linear_node-requires-clause-call g c = c.call.ensures ∙ ap Some c.in-Linear.is

pub linear_node-requires-clause-ids : goal.linear_node-requires-clause-ids
linear_node-requires-clause-ids g c = c.requires.ids

pub pairing_node-requires-clause-ready : goal.pairing_node-requires-clause-ready
pairing_node-requires-clause-ready g c = c.requires.ready

pub pairing_node-requires-clause-call : goal.pairing_node-requires-clause-call
pairing_node-requires-clause-call g c = c.call.ensures ∙ ap Some c.in-Pairing.is

pub pairing_node-requires-clause-ids : goal.pairing_node-requires-clause-ids
pairing_node-requires-clause-ids g c = c.requires.ids

pub pairing_node-requires-clause-before : goal.pairing_node-requires-clause-before
pairing_node-requires-clause-before g c = c.requires.before
