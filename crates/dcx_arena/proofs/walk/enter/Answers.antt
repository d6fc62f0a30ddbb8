-- A node that is entered has its arguments and itself to do, and one that is finished has nothing.
use Rattle.std.proofs.Common.{◌≡◌, ◌<◌, refl, length, arith, true}
use Rattle.std.proofs.lemmas.Option.{slice_get_read}
use Rattle.dcx_arena.specs.Gather.{has}
use Rattle.dcx_arena.proofs.Kept.{count_nodes}
use Rattle.dcx_arena.proofs.Numbers.{numbered_has, read_some}
use Rattle.dcx_arena.proofs.Frames.{there_ready, there_order, there_steps, entered_ready, entered_order, entered_steps}
use Rattle.dcx_arena.proofs.walk.enter.Goals as goal

pub returns-in_ok-push-clause-ready : goal.returns-in_ok-push-clause-ready
returns-in_ok-push-clause-ready g c =
    let n = count_nodes c.args.store.now.cells.items c.args.store.now.stored.items in
    let below : c.args.node < length c.args.store.now.stored.items = omega (arith, n, c.requires.below) in
    let e = slice_get_read c.args.store.now.stored.items (length c.args.store.now.stored.items) c.args.node c.index-entered.result.now refl below c.index-entered.ensures in
    entered_ready g.C.Operator.gives g.C.Operator.bucket_of c.args.store.now.cells.items c.args.store.now.stored.items c.requires.sound.kept c.requires.sound.nodes
    c.args.finished.now.order.items c.args.frames.now.items c.push.new.self.items c.args.node c.index-entered.result.now e _ refl refl refl
    c.in_ok-push.ensures.items below c.requires.ready

pub returns-in_ok-push-clause-order : goal.returns-in_ok-push-clause-order
returns-in_ok-push-clause-order g c =
    let n = count_nodes c.args.store.now.cells.items c.args.store.now.stored.items in
    let below : c.args.node < length c.args.store.now.stored.items = omega (arith, n, c.requires.below) in
    let e = slice_get_read c.args.store.now.stored.items (length c.args.store.now.stored.items) c.args.node c.index-entered.result.now refl below c.index-entered.ensures in
    entered_order g.C.Operator.gives g.C.Operator.bucket_of c.args.store.now.cells.items c.args.store.now.stored.items c.requires.sound.kept c.requires.sound.nodes
    c.args.finished.now.order.items c.args.frames.now.items c.push.new.self.items c.args.node c.index-entered.result.now e _ refl refl refl c.in_ok-push.ensures.items

pub returns-in_ok-push-clause-steps : goal.returns-in_ok-push-clause-steps
returns-in_ok-push-clause-steps g c =
    let n = count_nodes c.args.store.now.cells.items c.args.store.now.stored.items in
    let below : c.args.node < length c.args.store.now.stored.items = omega (arith, n, c.requires.below) in
    let e = slice_get_read c.args.store.now.stored.items (length c.args.store.now.stored.items) c.args.node c.index-entered.result.now refl below c.index-entered.ensures in
    entered_steps g.C.Operator.gives g.C.Operator.bucket_of c.args.store.now.cells.items c.args.store.now.stored.items c.requires.sound.kept c.requires.sound.nodes
    c.args.finished.now.order.items c.args.frames.now.items c.push.new.self.items c.args.node c.index-entered.result.now e _ refl refl refl c.in_ok-push.ensures.items

pub returns-else-is_none-clause-ready : goal.returns-else-is_none-clause-ready
returns-else-is_none-clause-ready g c =
    let n = count_nodes c.args.store.now.cells.items c.args.store.now.stored.items in
    let lt : c.args.node < length c.args.finished.now.numbers.items = omega (arith, n, c.requires.below, c.requires.finished.count) in
    let r = read_some c.args.finished.now.numbers.items c.args.node c.index.result.now lt c.index.ensures c.if-is_none.ensures in
    let here : has c.args.finished.now.order.items c.args.node ≡ true =
    numbered_has c.args.finished.now.order.items c.args.finished.now.numbers.items c.args.node r.0 c.requires.finished.numbering r.1 in
    there_ready g.C.Operator.gives g.C.Operator.bucket_of c.args.store.now.cells.items c.args.store.now.stored.items c.requires.sound.kept c.requires.sound.nodes
    c.args.finished.now.order.items c.args.frames.now.items c.args.frames.now.items c.args.node refl c.requires.finished.closed here c.requires.ready

pub returns-else-is_none-clause-order : goal.returns-else-is_none-clause-order
returns-else-is_none-clause-order g c =
    let n = count_nodes c.args.store.now.cells.items c.args.store.now.stored.items in
    let lt : c.args.node < length c.args.finished.now.numbers.items = omega (arith, n, c.requires.below, c.requires.finished.count) in
    let r = read_some c.args.finished.now.numbers.items c.args.node c.index.result.now lt c.index.ensures c.if-is_none.ensures in
    let here : has c.args.finished.now.order.items c.args.node ≡ true =
    numbered_has c.args.finished.now.order.items c.args.finished.now.numbers.items c.args.node r.0 c.requires.finished.numbering r.1 in
    there_order g.C.Operator.gives g.C.Operator.bucket_of c.args.store.now.cells.items c.args.store.now.stored.items c.requires.sound.kept c.requires.sound.nodes
    c.args.finished.now.order.items c.args.frames.now.items c.args.frames.now.items c.args.node refl c.requires.finished.closed here

pub returns-else-is_none-clause-steps : goal.returns-else-is_none-clause-steps
returns-else-is_none-clause-steps g c =
    let n = count_nodes c.args.store.now.cells.items c.args.store.now.stored.items in
    let lt : c.args.node < length c.args.finished.now.numbers.items = omega (arith, n, c.requires.below, c.requires.finished.count) in
    let r = read_some c.args.finished.now.numbers.items c.args.node c.index.result.now lt c.index.ensures c.if-is_none.ensures in
    let here : has c.args.finished.now.order.items c.args.node ≡ true =
    numbered_has c.args.finished.now.order.items c.args.finished.now.numbers.items c.args.node r.0 c.requires.finished.numbering r.1 in
    there_steps g.C.Operator.gives g.C.Operator.bucket_of c.args.store.now.cells.items c.args.store.now.stored.items c.requires.sound.kept c.requires.sound.nodes
    c.args.finished.now.order.items c.args.frames.now.items c.args.frames.now.items c.args.node refl c.requires.finished.closed here
