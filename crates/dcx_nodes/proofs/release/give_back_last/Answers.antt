-- What stands for one more node is given back where this is its last use, and stays where it isn't.
use Rattle.std.proofs.Common.{◌+◌, length, get_or, take, sym, ap, ◌∙◌, subst, arith}
use Rattle.std.proofs.Math.ListN.{set}
use Rattle.dcx_arena.specs.Nodes.{positions}
use Rattle.dcx_arena.proofs.Positions.{position_below}
use Rattle.dcx_nodes.specs.Uses.{IsGivenBack}
use Rattle.dcx_nodes.proofs.GivenBack.{back_here, back_later}
use Rattle.dcx_nodes.proofs.release.give_back_last.Goals as goal
use Rattle.dcx_nodes.proofs.release.give_back_last.Goals.{then-uses-place, else-uses-place}

pub bounds-uses-place : goal.bounds-uses-place
bounds-uses-place g c = position_below c.args.ids.now (length c.args.uses.now) c.ids.id-index c.requires.uses c.ids-test.true

pub bounds-standing-place : goal.bounds-standing-place
bounds-standing-place g c =
    let below = position_below c.args.ids.now (length c.args.standing.now) c.ids.id-index c.requires.standing c.ids-test.true in
    omega (arith, below, c.ids.invariant.counted)

pub ids-preserved : goal.ids-preserved
ids-preserved g c =
    let ids = c.args.ids.now in
    let k = c.ids.id-index in
    let b = (get_or ids k (record { 0 = 0 })).0 in
    let uses = c.args.uses.now in
    let node = c.args.node.0 in
    let below = position_below ids (length c.args.standing.now) k c.requires.standing c.ids-test.true in
    elim c.if-uses-place.branch [
      | then-uses-place w ↦
          subst (IsGivenBack uses node (positions (take (k + 1) ids)) c.args.standing.now) (sym (w.standing-is ∙ ap (set c.ids.standing b) w.give_back.ensures))
          (back_here uses node ids k c.ids-test.true c.args.standing.now c.ids.standing c.ids.invariant w.if-uses-place.true (omega (arith, below, c.ids.invariant.counted)))
      | else-uses-place w ↦
          subst (IsGivenBack uses node (positions (take (k + 1) ids)) c.args.standing.now) (sym w.standing-is)
          (back_later uses node ids k c.ids-test.true c.args.standing.now c.ids.standing c.ids.invariant w.if-uses-place.false)
    ]
