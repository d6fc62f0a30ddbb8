-- Each argument is a node of the store, and its shape comes behind those so far.
use Rattle.std.proofs.Common.{arith, length, get_or, refl, sym, ap, ◌∙◌, ◌++◌, ◌∷◌, []}
use Rattle.dcx_arena.specs.declared.store.Stored.{Stored}
use Rattle.dcx_arena.proofs.Positions.{length-positions, position_at, position_below}
use Rattle.dcx_arena.proofs.Shapes.{shapes_more}
use Rattle.dcx_arena.specs.Nodes.{positions}
use Rattle.std.proofs.lemmas.Option.{slice_get_read}
use Rattle.dcx_arena.proofs.store.read_shapes.Goals as goal

pub offset_bounds-stored-a : goal.offset_bounds-stored-a
offset_bounds-stored-a g c = let b = position_below c.args.args.now (length c.args.stored.now) c.loop-a.a-index c.requires c.loop-a-test.true in omega (arith, b)

pub bounds-stored-a : goal.bounds-stored-a
bounds-stored-a g c = position_below c.args.args.now (length c.args.stored.now) c.loop-a.a-index c.requires c.loop-a-test.true

pub bounds-stored-a-in-loop-a : goal.bounds-stored-a-in-loop-a
bounds-stored-a-in-loop-a g c = position_below c.args.args.now (length c.args.stored.now) c.loop-a.a-index c.requires c.loop-a-test.true

pub loop-a-preserved : goal.loop-a-preserved
loop-a-preserved g c =
    let n = length-positions c.args.args.now in
    let b = position_below c.args.args.now (length c.args.stored.now) c.loop-a.a-index c.requires c.loop-a-test.true in
    shapes_more c.args.stored.now c.loop-a.shapes.items c.push.new.self.items (positions c.args.args.now) c.loop-a.a-index
    (get_or c.args.args.now c.loop-a.a-index (record { 0 = 0 })).0 c.index-stored-a.result c.loop-a.invariant (omega (arith, n))
    (position_at c.args.args.now c.loop-a.a-index)
    (slice_get_read c.args.stored.now (length c.args.stored.now) (get_or c.args.args.now c.loop-a.a-index (record { 0 = 0 })).0 c.index-stored-a.result refl b
    c.index-stored-a.is) (c.in_ok-push.ensures.items ∙ ap (λ (x : Stored g.row.C.Denot). c.loop-a.shapes.items ++ x.shape ∷ []) (sym c.index-stored-a.is))
