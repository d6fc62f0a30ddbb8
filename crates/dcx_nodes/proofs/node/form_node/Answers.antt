-- A node is reduced, or it is a number.
use Rattle.std.proofs.Common.{sym, ◌∙◌}
use Rattle.dcx_arena.proofs.Results.{on_ok}
use Rattle.dcx_entries.specs.Standing.{all_forms}
use Rattle.dcx_nodes.specs.Formed.{ValueGives, ReducedGives, MarkedGives}
use Rattle.dcx_nodes.proofs.Auxiliaries.{next_unmarked}
use Rattle.dcx_nodes.proofs.Standings.{value_by, standing_weaker, marked_reduced, marked_number}
use Rattle.dcx_nodes.proofs.node.form_node.Goals as goal

pub node_value-requires-clause-given : goal.node_value-requires-clause-given
node_value-requires-clause-given g c = λ n at. c.requires.ready.numbers c.args.node.0 n at c.if-given-node.false

pub returns-then-given-node-clause-entries : goal.returns-then-given-node-clause-entries
returns-then-given-node-clause-entries g c =
    let t = g.C.Coef in
    standing_weaker t.of_number c.form_reduced.result
    (ReducedGives t.of_number t.number_of t.sum_gives t.change_gives t.parameter_gives c.args.given.now.problem.now c.args.given.now.setting.now c.args.given.now.reduced.now
    c.args.given.now.fixed.now (all_forms t.of_number c.args.standing.now) c.args.node.0)
    (MarkedGives t.of_number t.number_of t.sum_gives t.change_gives t.parameter_gives c.args.given.now.problem.now c.args.given.now.setting.now c.args.given.now.reduced.now
    c.args.given.now.fixed.now (all_forms t.of_number c.args.standing.now) c.args.node.0)
    (λ r h. marked_reduced t.of_number t.number_of t.sum_gives t.change_gives t.parameter_gives c.args.given.now.problem.now c.args.given.now.setting.now c.args.given.now.reduced.now
    c.args.given.now.fixed.now (all_forms t.of_number c.args.standing.now) c.args.node.0 r c.requires.there c.if-given-node.true h) c.form_reduced.ensures.entries

pub returns-else-given-node-clause-entries : goal.returns-else-given-node-clause-entries
returns-else-given-node-clause-entries g c =
    let t = g.C.Coef in
    standing_weaker t.of_number c.as_value.result (ValueGives t.of_number t.number_of t.sum_gives t.change_gives t.parameter_gives c.args.given.now.problem.now c.args.given.now.setting.now
    (all_forms t.of_number c.args.standing.now) c.args.node.0)
    (MarkedGives t.of_number t.number_of t.sum_gives t.change_gives t.parameter_gives c.args.given.now.problem.now c.args.given.now.setting.now c.args.given.now.reduced.now
    c.args.given.now.fixed.now (all_forms t.of_number c.args.standing.now) c.args.node.0)
    (λ r h. marked_number t.of_number t.number_of t.sum_gives t.change_gives t.parameter_gives c.args.given.now.problem.now c.args.given.now.setting.now c.args.given.now.reduced.now
    c.args.given.now.fixed.now (all_forms t.of_number c.args.standing.now) c.args.node.0 r c.requires.there c.if-given-node.false h)
    (value_by t.of_number c.node_value.result c.as_value.result c.as_value.ensures
    (ValueGives t.of_number t.number_of t.sum_gives t.change_gives t.parameter_gives c.args.given.now.problem.now c.args.given.now.setting.now
    (all_forms t.of_number c.args.standing.now) c.args.node.0) c.node_value.ensures.value)

pub returns-else-given-node-clause-next : goal.returns-else-given-node-clause-next
returns-else-given-node-clause-next g c =
    let t = g.C.Coef in
    on_ok c.as_value.result
    (c.requires.next ∙ sym (next_unmarked c.args.given.now.problem.now c.args.given.now.reduced.now c.args.node.0 c.if-given-node.false))
