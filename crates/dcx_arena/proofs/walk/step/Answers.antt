-- A node with no argument left is finished, and another one enters its next argument; the steps that are left fall.
use Rattle.std.proofs.Common.{◌<◌, ◌-◌, ◌∙◌, refl, ap, length, arith}
use Rattle.std.proofs.lemmas.Result.{on_ok_weaker}
use Rattle.dcx_arena.specs.declared.store.Cell.{Cell}
use Rattle.dcx_arena.specs.declared.walk.Frame.{Frame}
use Rattle.dcx_arena.proofs.Cells.{cell_read}
use Rattle.dcx_arena.specs.Chains.{cell_at, nodes_in}
use Rattle.dcx_arena.specs.Walk.{steps_of}
use Rattle.dcx_arena.proofs.Frames.{frame_ready, done_args, done_ready, done_order, next_there, next_below, next_ready, next_order, next_steps}
use Rattle.dcx_arena.proofs.Orders.{closed_with}
use Rattle.dcx_arena.proofs.Results.{on_ok_both}
use Rattle.dcx_arena.proofs.walk.step.Goals as goal

pub finish-requires-clause-below : goal.finish-requires-clause-below
finish-requires-clause-below g c = let r = (frame_ready g.C.Operator.gives c.args.store.now.cells.items (nodes_in c.args.store.now) c.requires.sound.nodes
    c.args.finished.now.order.items c.args.frames.now.items c.args.frame c.requires.ready).there in omega (arith, r, c.requires.finished.count)

pub returns-then-frame-eq0-clause-finished : goal.returns-then-frame-eq0-clause-finished
returns-then-frame-eq0-clause-finished g c =
    let args = done_args g.C.Operator.gives c.args.store.now.cells.items
    (nodes_in c.args.store.now) c.requires.sound.nodes c.args.finished.now.order.items c.args.frames.now.items c.args.frame c.requires.ready c.if-frame-eq0.true in
    on_ok_both c.finish.result c.finish.ensures.numbering c.finish.ensures.order (λ numbering order. record {
      count = c.finish.ensures.count ∙ c.requires.finished.count;
      numbering = numbering;
      closed = rw order (closed_with g.C.Operator.gives (nodes_in c.args.store.now) c.requires.sound.nodes c.args.finished.now.order.items c.args.frame.node c.requires.finished.closed args);
    })

pub returns-then-frame-eq0-clause-ready : goal.returns-then-frame-eq0-clause-ready
returns-then-frame-eq0-clause-ready g c =
    on_ok_weaker c.finish.result (λ order. rw order (done_ready g.C.Operator.gives c.args.store.now.cells.items (nodes_in c.args.store.now) c.requires.sound.nodes
    c.args.finished.now.order.items c.args.frames.now.items c.args.frame c.requires.ready c.if-frame-eq0.true)) c.finish.ensures.order

pub returns-then-frame-eq0-clause-order : goal.returns-then-frame-eq0-clause-order
returns-then-frame-eq0-clause-order g c =
    on_ok_weaker c.finish.result (λ order. rw order (done_order g.C.Operator.gives c.args.store.now.cells.items (nodes_in c.args.store.now) c.requires.sound.nodes
    c.args.finished.now.order.items c.args.frames.now.items c.args.frame c.requires.ready c.if-frame-eq0.true)) c.finish.ensures.order

pub index-cell-requires : goal.index-cell-requires
index-cell-requires g c =
    let some : 0 < c.args.frame.left = let z = c.if-frame-eq0.false in omega (arith, z) in
    let f : Frame = record { node = c.args.frame.node; left = c.args.frame.left - 1; at = (cell_at c.args.store.now.cells.items c.args.frame.at).next } in
    let lt : c.args.frame.at < length c.args.store.now.cells.items =
    next_there g.C.Operator.gives c.args.store.now.cells.items (nodes_in c.args.store.now) c.requires.sound.nodes c.args.finished.now.order.items c.args.frames.now.items
    c.args.frame c.requires.ready f (cell_at c.args.store.now.cells.items c.args.frame.at).node some refl refl refl refl in
    let n = c.args.store.now.cells.ok.0 in
    omega (arith, lt, n)

pub enter-requires-clause-below : goal.enter-requires-clause-below
enter-requires-clause-below g c =
    let some : 0 < c.args.frame.left = let z = c.if-frame-eq0.false in omega (arith, z) in
    let lt : c.args.frame.at < length c.args.store.now.cells.items =
    next_there g.C.Operator.gives c.args.store.now.cells.items (nodes_in c.args.store.now) c.requires.sound.nodes c.args.finished.now.order.items c.args.frames.now.items
    c.args.frame c.requires.ready (record { node = c.args.frame.node; left = c.args.frame.left - 1; at = (cell_at c.args.store.now.cells.items c.args.frame.at).next })
    (cell_at c.args.store.now.cells.items c.args.frame.at).node some refl refl refl refl in
    let read = cell_read c.args.store.now.cells.items c.args.frame.at c.index-cell.result.now lt c.index-cell.ensures in
    let f : Frame = record { node = c.args.frame.node; left = c.args.frame.left - 1; at = c.index-cell.result.now.next } in
    next_below g.C.Operator.gives c.args.store.now.cells.items (nodes_in c.args.store.now) c.requires.sound.nodes c.args.finished.now.order.items c.args.frames.now.items
    c.args.frame c.requires.ready f c.index-cell.result.now.node some refl refl (ap (λ (x : Cell). x.next) read) (ap (λ (x : Cell). x.node) read)

pub enter-requires-clause-ready : goal.enter-requires-clause-ready
enter-requires-clause-ready g c =
    let some : 0 < c.args.frame.left = let z = c.if-frame-eq0.false in omega (arith, z) in
    let lt : c.args.frame.at < length c.args.store.now.cells.items =
    next_there g.C.Operator.gives c.args.store.now.cells.items (nodes_in c.args.store.now) c.requires.sound.nodes c.args.finished.now.order.items c.args.frames.now.items
    c.args.frame c.requires.ready (record { node = c.args.frame.node; left = c.args.frame.left - 1; at = (cell_at c.args.store.now.cells.items c.args.frame.at).next })
    (cell_at c.args.store.now.cells.items c.args.frame.at).node some refl refl refl refl in
    let read = cell_read c.args.store.now.cells.items c.args.frame.at c.index-cell.result.now lt c.index-cell.ensures in
    let f : Frame = record { node = c.args.frame.node; left = c.args.frame.left - 1; at = c.index-cell.result.now.next } in
    rw c.in_ok-push.ensures.items
    (next_ready g.C.Operator.gives c.args.store.now.cells.items (nodes_in c.args.store.now) c.requires.sound.nodes c.args.finished.now.order.items c.args.frames.now.items
    c.args.frame c.requires.ready f c.index-cell.result.now.node some refl refl (ap (λ (x : Cell). x.next) read) (ap (λ (x : Cell). x.node) read))

pub returns-clause-order : goal.returns-clause-order
returns-clause-order g c =
    let some : 0 < c.args.frame.left = let z = c.if-frame-eq0.false in omega (arith, z) in
    let lt : c.args.frame.at < length c.args.store.now.cells.items =
    next_there g.C.Operator.gives c.args.store.now.cells.items (nodes_in c.args.store.now) c.requires.sound.nodes c.args.finished.now.order.items c.args.frames.now.items
    c.args.frame c.requires.ready (record { node = c.args.frame.node; left = c.args.frame.left - 1; at = (cell_at c.args.store.now.cells.items c.args.frame.at).next })
    (cell_at c.args.store.now.cells.items c.args.frame.at).node some refl refl refl refl in
    let read = cell_read c.args.store.now.cells.items c.args.frame.at c.index-cell.result.now lt c.index-cell.ensures in
    let f : Frame = record { node = c.args.frame.node; left = c.args.frame.left - 1; at = c.index-cell.result.now.next } in
    on_ok_weaker c.enter.result (λ order. order ∙ rw c.in_ok-push.ensures.items (next_order g.C.Operator.gives c.args.store.now.cells.items (nodes_in c.args.store.now)
    c.requires.sound.nodes c.args.finished.now.order.items c.args.frames.now.items c.args.frame c.requires.ready f c.index-cell.result.now.node some refl refl
    (ap (λ (x : Cell). x.next) read) (ap (λ (x : Cell). x.node) read))) c.enter.ensures.order

pub returns-clause-steps : goal.returns-clause-steps
returns-clause-steps g c =
    let some : 0 < c.args.frame.left = let z = c.if-frame-eq0.false in omega (arith, z) in
    let lt : c.args.frame.at < length c.args.store.now.cells.items =
    next_there g.C.Operator.gives c.args.store.now.cells.items (nodes_in c.args.store.now) c.requires.sound.nodes c.args.finished.now.order.items c.args.frames.now.items
    c.args.frame c.requires.ready (record { node = c.args.frame.node; left = c.args.frame.left - 1; at = (cell_at c.args.store.now.cells.items c.args.frame.at).next })
    (cell_at c.args.store.now.cells.items c.args.frame.at).node some refl refl refl refl in
    let read = cell_read c.args.store.now.cells.items c.args.frame.at c.index-cell.result.now lt c.index-cell.ensures in
    let f : Frame = record { node = c.args.frame.node; left = c.args.frame.left - 1; at = c.index-cell.result.now.next } in
    let e = ap (steps_of c.args.store.now.cells.items (nodes_in c.args.store.now)) c.in_ok-push.ensures.items in
    let n = next_steps g.C.Operator.gives c.args.store.now.cells.items (nodes_in c.args.store.now) c.requires.sound.nodes c.args.finished.now.order.items
    c.args.frames.now.items c.args.frame c.requires.ready f c.index-cell.result.now.node some refl refl (ap (λ (x : Cell). x.next) read) (ap (λ (x : Cell). x.node) read) in
    on_ok_weaker c.enter.result (λ steps. omega (arith, steps, e, n)) c.enter.ensures.steps
