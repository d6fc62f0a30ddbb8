-- The entry is that of the argument's node; past the arguments, the nodes or the entries it is 0.
use Rattle.std.proofs.Common.{sym, ◌∙◌}
use Rattle.std.proofs.lemmas.Bool.{ltb-true}
use Rattle.dcx_entries.proofs.Past.{not_below, argument_is, node_past, argument_past}
use Rattle.dcx_entries.proofs.arguments.argument_at.Goals as goal

pub returns-in-Some-get : goal.returns-in-Some-get
returns-in-Some-get g c =
    let t = g.C.Coef in
    c.entry_at.ensures
    ∙ argument_is t.of_number c.args.args.now.standing.now c.args.args.now.ids.now c.args.argument c.args.entry c.in-Some.node.now c.in-Some-get.standing.now
    (ltb-true _ _ (sym (c.in-Some.ensures {u = tt}).lookup.0)) (c.in-Some.ensures {u = tt}).lookup.1 (ltb-true _ _ (sym (c.in-Some-get.ensures {u = tt}).lookup.0))
    (c.in-Some-get.ensures {u = tt}).lookup.1

pub returns-in-None-get : goal.returns-in-None-get
returns-in-None-get g c =
    let t = g.C.Coef in
    node_past t.of_number c.args.args.now.standing.now c.args.args.now.ids.now c.args.argument c.args.entry c.in-Some.node.now c.zero.result
    (ltb-true _ _ (sym (c.in-Some.ensures {u = tt}).lookup.0)) (c.in-Some.ensures {u = tt}).lookup.1 (not_below _ _ (c.in-None-get.ensures {u = tt}).lookup.0) c.zero.ensures

pub returns-in-None : goal.returns-in-None
returns-in-None g c =
    let t = g.C.Coef in
    argument_past t.of_number c.args.args.now.standing.now c.args.args.now.ids.now c.args.argument c.args.entry c.zero-in-None.result
    (not_below _ _ (c.in-None.ensures {u = tt}).lookup.0) c.zero-in-None.ensures
