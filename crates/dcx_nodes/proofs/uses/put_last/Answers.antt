-- One more node has the place as its last use.
use Rattle.std.proofs.Common.{length, arith}
use Rattle.dcx_arena.proofs.Positions.{position_below}
use Rattle.dcx_nodes.proofs.LastUses.{put_next}
use Rattle.dcx_nodes.proofs.uses.put_last.Goals as goal

pub bounds-uses-id : goal.bounds-uses-id
bounds-uses-id c =
    let below = position_below c.args.ids.now (length c.args.uses.now) c.ids.id-index c.requires c.ids-test.true in
    omega (arith, below, c.ids.invariant.counted)

pub ids-preserved : goal.ids-preserved
ids-preserved c =
    let below = position_below c.args.ids.now (length c.args.uses.now) c.ids.id-index c.requires c.ids-test.true in
    put_next c.args.place c.args.ids.now c.ids.id-index c.args.uses.now c.ids.uses c.ids-test.true (omega (arith, below, c.ids.invariant.counted)) c.ids.invariant
