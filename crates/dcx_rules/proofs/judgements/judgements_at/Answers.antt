-- Each node that is named has a judgement, which comes behind those so far.
use Rattle.std.proofs.Common.{◌<◌, length, arith}
use Rattle.dcx_rules.proofs.Nodes.{id_below, chosen_more}
use Rattle.dcx_rules.proofs.judgements.judgements_at.Goals as goal

pub bounds-judgements-id : goal.bounds-judgements-id
bounds-judgements-id c = id_below c.args.ids.now (length c.args.judgements.now) c.loop-id.id-index _ c.requires (omega arith)

pub loop-id-preserved : goal.loop-id-preserved
loop-id-preserved c =
    let lt : c.loop-id.id-index < length c.args.ids.now = omega arith in
    chosen_more c.args.judgements.now c.args.ids.now c.loop-id.id-index _ _ c.loop-id.chosen.items _ lt
    (id_below c.args.ids.now (length c.args.judgements.now) c.loop-id.id-index _ c.requires lt) c.loop-id.invariant c.in_ok-push.ensures.items
