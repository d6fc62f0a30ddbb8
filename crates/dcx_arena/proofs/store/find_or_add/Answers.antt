-- The shapes read are those of the arguments, the head is the bucket's, and what is found or added is the call's.
use Rattle.std.proofs.Common.{◌≡◌, ◌∙◌, ap, sym, refl, map, Some, None, option_map, arith}
use mathlib.Core.Logic.{inl}
use Rattle.dcx_shape.specs.Shape.{sides_of}
use Rattle.dcx_arena.specs.Nodes.{positions, sides_at}
use Rattle.dcx_arena.specs.Chains.{nodes_in}
use Rattle.dcx_arena.proofs.Shapes.{sides_are}
use Rattle.dcx_arena.proofs.Kept.{store_headed, head_read, all_stored}
use Rattle.dcx_arena.proofs.store.find_or_add.Goals as goal

pub append-requires-clause-new : goal.append-requires-clause-new
append-requires-clause-new g c = rw (c.deref-3.ensures.value, c.deref-4.ensures.value) at c.in-None.ensures.none

pub append-requires-clause-shape : goal.append-requires-clause-shape
append-requires-clause-shape g c =
    let o = c.args.store.now in
    let shapes : map sides_of c.deref-2.result.now ≡ map (sides_at (nodes_in o)) (positions c.args.args.now) =
    ap (map sides_of) c.deref-2.ensures.value ∙ (rw c.deref.ensures.value at c.in_ok-read_shapes.ensures) ∙ sides_are o.cells.items o.stored.items (positions c.args.args.now) in
    sym (c.in-Some.ensures ∙ ap (g.C.Operator.gives c.args.call) shapes)

pub returns-in-Some-find-clause-pushed : goal.returns-in-Some-find-clause-pushed
returns-in-Some-find-clause-pushed g c =
    let o = c.args.store.now in
    let shapes : map sides_of c.deref-2.result.now ≡ map (sides_at (nodes_in o)) (positions c.args.args.now) =
    ap (map sides_of) c.deref-2.ensures.value ∙ (rw c.deref.ensures.value at c.in_ok-read_shapes.ensures) ∙ sides_are o.cells.items o.stored.items (positions c.args.args.now) in
    let given : Some (sides_of c.in-Some.shape) ≡ g.C.Operator.gives c.args.call (map (sides_at (nodes_in o)) (positions c.args.args.now)) =
    c.in-Some.ensures ∙ ap (g.C.Operator.gives c.args.call) shapes in
    rw (← given) (inl (record { there = rw (c.deref-3.ensures.value, c.deref-4.ensures.value) at c.in-Some-find.ensures.some; same = refl }))

pub returns-in-None-clause-pushed : goal.returns-in-None-clause-pushed
returns-in-None-clause-pushed g c =
    let o = c.args.store.now in
    let shapes : map sides_of c.deref-2.result.now ≡ map (sides_at (nodes_in o)) (positions c.args.args.now) =
    ap (map sides_of) c.deref-2.ensures.value ∙ (rw c.deref.ensures.value at c.in_ok-read_shapes.ensures) ∙ sides_are o.cells.items o.stored.items (positions c.args.args.now) in
    let given : Some (sides_of c.in-Some.shape) ≡ g.C.Operator.gives c.args.call (map (sides_at (nodes_in o)) (positions c.args.args.now)) =
    c.in-Some.ensures ∙ ap (g.C.Operator.gives c.args.call) shapes in
    rw (← given) c.append.ensures.pushed

pub read_shapes-requires : goal.read_shapes-requires
read_shapes-requires g c = all_stored c.args.store.now.cells.items c.args.store.now.stored.items _ (positions c.args.args.now) c.deref.ensures.value c.requires.args

pub returns-in_default-clause-pushed : goal.returns-in_default-clause-pushed
returns-in_default-clause-pushed g c =
    let o = c.args.store.now in
    let shapes : map sides_of c.deref-2.result.now ≡ map (sides_at (nodes_in o)) (positions c.args.args.now) =
    ap (map sides_of) c.deref-2.ensures.value ∙ (rw c.deref.ensures.value at c.in_ok-read_shapes.ensures) ∙ sides_are o.cells.items o.stored.items (positions c.args.args.now) in
    let given : None ≡ g.C.Operator.gives c.args.call (map (sides_at (nodes_in o)) (positions c.args.args.now)) =
    sym (ap (option_map sides_of) c.in_default.is) ∙ c.shape.ensures ∙ ap (g.C.Operator.gives c.args.call) shapes in
    rw (← given) tt

pub find-requires-clause-head : goal.find-requires-clause-head
find-requires-clause-head g c =
    let o = c.args.store.now in
    head_read o.stored.items _ o.heads.items c.ready.new.heads.items c.bucket-bucket.result _ c.index-head.result.now c.requires.sound.led c.in_ok-ready.ensures.same
    c.in_ok-ready.ensures.room c.bucket-bucket.ensures.value c.bucket-bucket.ensures.within c.index-head.ensures c.deref-4.ensures.value

pub append-requires-clause-sound : goal.append-requires-clause-sound
append-requires-clause-sound g c =
    let o = c.args.store.now in
    store_headed g.C.Operator.gives g.C.Operator.bucket_of o.cells.items o.stored.items o.heads.items c.ready.new.heads.items o.entries c.in_ok-ready.ensures.same c.requires.sound

pub returns-in-Some-find-clause-sound : goal.returns-in-Some-find-clause-sound
returns-in-Some-find-clause-sound g c =
    let o = c.args.store.now in
    store_headed g.C.Operator.gives g.C.Operator.bucket_of o.cells.items o.stored.items o.heads.items c.ready.new.heads.items o.entries c.in_ok-ready.ensures.same c.requires.sound

pub index-head-requires : goal.index-head-requires
index-head-requires g c = omega (arith, c.bucket-bucket.ensures.within, c.in_ok-ready.ensures.room)

pub find-requires-clause-kept : goal.find-requires-clause-kept
find-requires-clause-kept g c = rw (c.deref-3.ensures.value, c.deref-4.ensures.value) c.requires.sound.kept

pub append-requires-clause-heads : goal.append-requires-clause-heads
append-requires-clause-heads g c = c.in_ok-ready.ensures.room

pub append-requires-clause-args : goal.append-requires-clause-args
append-requires-clause-args g c = c.requires.args

pub append-requires-clause-bucket : goal.append-requires-clause-bucket
append-requires-clause-bucket g c = c.bucket-bucket.ensures.value

pub append-requires-clause-within : goal.append-requires-clause-within
append-requires-clause-within g c = c.bucket-bucket.ensures.within

pub returns-in_err-read_shapes-clause-sound : goal.returns-in_err-read_shapes-clause-sound
returns-in_err-read_shapes-clause-sound g c = c.requires.sound

pub returns-in_default-clause-sound : goal.returns-in_default-clause-sound
returns-in_default-clause-sound g c = c.requires.sound

pub returns-in_err-ready-clause-sound : goal.returns-in_err-ready-clause-sound
returns-in_err-ready-clause-sound g c =
    let o = c.args.store.now in
    store_headed g.C.Operator.gives g.C.Operator.bucket_of o.cells.items o.stored.items o.heads.items c.ready.new.heads.items o.entries c.ready.ensures.same c.requires.sound

pub returns-in-None-clause-sound : goal.returns-in-None-clause-sound
returns-in-None-clause-sound g c = c.append.ensures.sound
