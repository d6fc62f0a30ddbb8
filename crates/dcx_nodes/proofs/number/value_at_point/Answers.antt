-- The value at the arrays of the numbers that the arguments are.
use Rattle.std.proofs.Common.{[], ◌∷◌}
use Rattle.dcx_arena.specs.Nodes.{positions}
use Rattle.dcx_nodes.proofs.Numbers.{only_numbers, may_ask, call_gives, asked_given}
use Rattle.dcx_nodes.proofs.number.value_at_point.Goals as goal

pub value-requires-clause-shape : goal.value-requires-clause-shape
value-requires-clause-shape g c =
    let t = g.C.Coef in
    may_ask t.of_number t.number_of t.sum_gives t.change_gives t.parameter_gives g.met.C.Coef.number_told c.args.given.now.problem.now c.args.given.now.setting.now c.args.args.now.standing.now
    c.args.node.0 c.requires.there (positions c.args.args.now.ids.now) c.requires.ids (c.in-Some.array.now ∷ [])
    (only_numbers t.of_number t.number_of g.met.C.Coef.number_told c.args.given.now.problem.now.tree c.args.args.now.standing.now
    (positions c.args.args.now.ids.now) c.in-Some.array.now c.requires.sides c.in-Some.ensures)
    c.call.result.now c.from_ref-only.result.now c.call.ensures c.from_ref-only.ensures.value

pub value-requires-clause-given : goal.value-requires-clause-given
value-requires-clause-given g c =
    asked_given c.args.given.now.problem.now c.args.given.now.setting.now c.args.node.0 c.requires.there c.requires.given c.call.result.now c.args.point.now c.call.ensures c.requires.point

pub returns-in-Some : goal.returns-in-Some
returns-in-Some g c =
    let t = g.C.Coef in
    let both = call_gives t.of_number t.number_of t.sum_gives t.change_gives t.parameter_gives g.met.C.Coef.number_told c.args.given.now.problem.now c.args.given.now.setting.now
    c.args.args.now.standing.now c.args.node.0 c.requires.there (positions c.args.args.now.ids.now) c.requires.ids (c.in-Some.array.now ∷ [])
    (only_numbers t.of_number t.number_of g.met.C.Coef.number_told c.args.given.now.problem.now.tree c.args.args.now.standing.now
    (positions c.args.args.now.ids.now) c.in-Some.array.now c.requires.sides c.in-Some.ensures)
    c.call.result.now c.args.point.now c.from_ref-only.result.now c.value.result c.call.ensures c.requires.point c.from_ref-only.ensures.value c.value.ensures.ok c.value.ensures.stop in
    record { sides = both.1; value = both.0 }

pub value-requires-in-Ok-clause-shape : goal.value-requires-in-Ok-clause-shape
value-requires-in-Ok-clause-shape g c =
    let t = g.C.Coef in
    may_ask t.of_number t.number_of t.sum_gives t.change_gives t.parameter_gives g.met.C.Coef.number_told c.args.given.now.problem.now c.args.given.now.setting.now c.args.args.now.standing.now
    c.args.node.0 c.requires.there (positions c.args.args.now.ids.now) c.requires.ids c.in-Ok.arrays.items (c.in-Ok.ensures {u = tt})
    c.call-in-Ok.result.now c.deref.result.now c.call-in-Ok.ensures c.deref.ensures.value

pub value-requires-in-Ok-clause-given : goal.value-requires-in-Ok-clause-given
value-requires-in-Ok-clause-given g c =
    asked_given c.args.given.now.problem.now c.args.given.now.setting.now c.args.node.0 c.requires.there c.requires.given c.call-in-Ok.result.now c.args.point.now c.call-in-Ok.ensures c.requires.point

pub returns-in-Ok : goal.returns-in-Ok
returns-in-Ok g c =
    let t = g.C.Coef in
    let both = call_gives t.of_number t.number_of t.sum_gives t.change_gives t.parameter_gives g.met.C.Coef.number_told c.args.given.now.problem.now c.args.given.now.setting.now
    c.args.args.now.standing.now c.args.node.0 c.requires.there (positions c.args.args.now.ids.now) c.requires.ids c.in-Ok.arrays.items (c.in-Ok.ensures {u = tt})
    c.call-in-Ok.result.now c.args.point.now c.deref.result.now c.value-in-Ok.result c.call-in-Ok.ensures c.requires.point c.deref.ensures.value c.value-in-Ok.ensures.ok c.value-in-Ok.ensures.stop in
    record { sides = both.1; value = both.0 }
