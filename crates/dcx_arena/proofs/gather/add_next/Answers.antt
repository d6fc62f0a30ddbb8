-- The next node has its arguments in the part; it comes in renamed, and nothing but memory can be wanting.
use Rattle.std.proofs.Common.{◌<◌, ◌∙◌, ◌∷◌, [], sym, ap, refl, subst, length, length-append, arith}
use Rattle.std.proofs.lemmas.Option.{slice_get_read}
use Rattle.dcx_arena.specs.Nodes.{positions, IsPushed}
use Rattle.dcx_arena.specs.Chains.{node_of, nodes_of, nodes_in}
use Rattle.dcx_arena.specs.Gather.{AreRenamed}
use Rattle.dcx_arena.proofs.Orders.{has_from}
use Rattle.dcx_arena.proofs.Shapes.{args_stored}
use Rattle.dcx_arena.proofs.Walks.{stored_node}
use Rattle.dcx_arena.proofs.Parts.{stored_below, names_below, next_node, next_renamed, next_adds}
use Rattle.dcx_arena.proofs.gather.add_next.Goals as goal

pub index-node-requires : goal.index-node-requires
index-node-requires g c =
    let nodes = nodes_of c.args.store.now.cells.items c.args.store.now.stored.items in
    let order = c.args.finished.now.order.items in
    let f = c.requires.finished in
    let below : c.args.node < length c.args.store.now.stored.items =
    stored_below c.args.store.now.cells.items c.args.store.now.stored.items order c.args.finished.now.numbers.items _ c.args.node f.count f.numbering c.requires.next in
    let n = c.args.store.now.stored.ok.0 in
    omega (arith, below, n)

pub read_numbers-requires-clause-chain : goal.read_numbers-requires-clause-chain
read_numbers-requires-clause-chain g c =
    let nodes = nodes_of c.args.store.now.cells.items c.args.store.now.stored.items in
    let order = c.args.finished.now.order.items in
    let f = c.requires.finished in
    let below : c.args.node < length c.args.store.now.stored.items =
    stored_below c.args.store.now.cells.items c.args.store.now.stored.items order c.args.finished.now.numbers.items _ c.args.node f.count f.numbering c.requires.next in
    let s = c.index-node.result.now in
    let e = slice_get_read c.args.store.now.stored.items (length c.args.store.now.stored.items) c.args.node s refl below c.index-node.ensures in
    let at = stored_node c.args.store.now.cells.items c.args.store.now.stored.items c.args.node s e in
    rw c.deref.ensures.value (c.requires.whole.kept.chained c.args.node s e)

pub read_numbers-requires-clause-there : goal.read_numbers-requires-clause-there
read_numbers-requires-clause-there g c =
    let nodes = nodes_of c.args.store.now.cells.items c.args.store.now.stored.items in
    let order = c.args.finished.now.order.items in
    let f = c.requires.finished in
    let below : c.args.node < length c.args.store.now.stored.items =
    stored_below c.args.store.now.cells.items c.args.store.now.stored.items order c.args.finished.now.numbers.items _ c.args.node f.count f.numbering c.requires.next in
    let s = c.index-node.result.now in
    let e = slice_get_read c.args.store.now.stored.items (length c.args.store.now.stored.items) c.args.node s refl below c.index-node.ensures in
    let at = stored_node c.args.store.now.cells.items c.args.store.now.stored.items c.args.node s e in
    λ a of.
    let (h, lt, there) = f.closed (length (nodes_in c.args.part.now)) c.args.node a c.requires.next
    (rw (args_stored c.args.store.now.cells.items c.args.store.now.stored.items c.args.node s e) (rw c.deref.ensures.value at of)) in
    has_from order h a there

pub find_or_add-requires-clause-args : goal.find_or_add-requires-clause-args
find_or_add-requires-clause-args g c =
    let nodes = nodes_of c.args.store.now.cells.items c.args.store.now.stored.items in
    let order = c.args.finished.now.order.items in
    let f = c.requires.finished in
    let below : c.args.node < length c.args.store.now.stored.items =
    stored_below c.args.store.now.cells.items c.args.store.now.stored.items order c.args.finished.now.numbers.items _ c.args.node f.count f.numbering c.requires.next in
    let s = c.index-node.result.now in
    let e = slice_get_read c.args.store.now.stored.items (length c.args.store.now.stored.items) c.args.node s refl below c.index-node.ensures in
    let at = stored_node c.args.store.now.cells.items c.args.store.now.stored.items c.args.node s e in
    let stand = rw c.deref.ensures.value at c.in_ok-read_numbers.ensures in
    rw c.deref-2.ensures.value
    (names_below g.C.Operator.gives nodes c.requires.whole.nodes order c.args.finished.now.numbers.items f.count f.numbering f.closed (nodes_in c.args.part.now)
    c.requires.renamed c.args.node (node_of c.args.store.now.cells.items s) at c.requires.next (positions c.read_numbers.new.numbers.items) stand)

pub memory_alone-requires : goal.memory_alone-requires
memory_alone-requires g c =
    let nodes = nodes_of c.args.store.now.cells.items c.args.store.now.stored.items in
    let order = c.args.finished.now.order.items in
    let f = c.requires.finished in
    let below : c.args.node < length c.args.store.now.stored.items =
    stored_below c.args.store.now.cells.items c.args.store.now.stored.items order c.args.finished.now.numbers.items _ c.args.node f.count f.numbering c.requires.next in
    let s = c.index-node.result.now in
    let e = slice_get_read c.args.store.now.stored.items (length c.args.store.now.stored.items) c.args.node s refl below c.index-node.ensures in
    let at = stored_node c.args.store.now.cells.items c.args.store.now.stored.items c.args.node s e in
    let stand = rw c.deref.ensures.value at c.in_ok-read_numbers.ensures in
    let pushed : IsPushed g.C.Operator.gives (nodes_in c.args.part.now) s.call (positions c.read_numbers.new.numbers.items) s.place c.find_or_add.result
    (nodes_in c.find_or_add.new.store) = rw (c.deref-2.ensures.value, c.in_ok-call.ensures) at c.find_or_add.ensures.pushed in
    let adds = next_adds g.C.Operator.gives nodes c.requires.whole.nodes order c.args.finished.now.numbers.items f.count f.numbering f.closed
    (nodes_in c.args.part.now) c.requires.renamed c.args.node (node_of c.args.store.now.cells.items s) at c.requires.next
    (positions c.read_numbers.new.numbers.items) stand c.find_or_add.result (nodes_in c.find_or_add.new.store) pushed in
    rw c.in-Err.is at adds

pub returns-in-Ok-clause-renamed : goal.returns-in-Ok-clause-renamed
returns-in-Ok-clause-renamed g c =
    let nodes = nodes_of c.args.store.now.cells.items c.args.store.now.stored.items in
    let order = c.args.finished.now.order.items in
    let f = c.requires.finished in
    let below : c.args.node < length c.args.store.now.stored.items =
    stored_below c.args.store.now.cells.items c.args.store.now.stored.items order c.args.finished.now.numbers.items _ c.args.node f.count f.numbering c.requires.next in
    let s = c.index-node.result.now in
    let e = slice_get_read c.args.store.now.stored.items (length c.args.store.now.stored.items) c.args.node s refl below c.index-node.ensures in
    let at = stored_node c.args.store.now.cells.items c.args.store.now.stored.items c.args.node s e in
    let stand = rw c.deref.ensures.value at c.in_ok-read_numbers.ensures in
    let pushed : IsPushed g.C.Operator.gives (nodes_in c.args.part.now) s.call (positions c.read_numbers.new.numbers.items) s.place c.find_or_add.result
    (nodes_in c.find_or_add.new.store) = rw (c.deref-2.ensures.value, c.in_ok-call.ensures) at c.find_or_add.ensures.pushed in
    let adds = next_adds g.C.Operator.gives nodes c.requires.whole.nodes order c.args.finished.now.numbers.items f.count f.numbering f.closed
    (nodes_in c.args.part.now) c.requires.renamed c.args.node (node_of c.args.store.now.cells.items s) at c.requires.next
    (positions c.read_numbers.new.numbers.items) stand c.find_or_add.result (nodes_in c.find_or_add.new.store) pushed in
    let after = rw c.in-Ok.is at adds in
    subst (AreRenamed nodes order) (sym after)
    (next_renamed g.C.Operator.gives nodes c.requires.whole.nodes order c.args.finished.now.numbers.items f.count f.numbering f.closed (nodes_in c.args.part.now)
    c.requires.renamed c.args.node (node_of c.args.store.now.cells.items s) at c.requires.next (positions c.read_numbers.new.numbers.items) stand)

pub returns-in-Ok-clause-count : goal.returns-in-Ok-clause-count
returns-in-Ok-clause-count g c =
    let nodes = nodes_of c.args.store.now.cells.items c.args.store.now.stored.items in
    let order = c.args.finished.now.order.items in
    let f = c.requires.finished in
    let below : c.args.node < length c.args.store.now.stored.items =
    stored_below c.args.store.now.cells.items c.args.store.now.stored.items order c.args.finished.now.numbers.items _ c.args.node f.count f.numbering c.requires.next in
    let s = c.index-node.result.now in
    let e = slice_get_read c.args.store.now.stored.items (length c.args.store.now.stored.items) c.args.node s refl below c.index-node.ensures in
    let at = stored_node c.args.store.now.cells.items c.args.store.now.stored.items c.args.node s e in
    let stand = rw c.deref.ensures.value at c.in_ok-read_numbers.ensures in
    let pushed : IsPushed g.C.Operator.gives (nodes_in c.args.part.now) s.call (positions c.read_numbers.new.numbers.items) s.place c.find_or_add.result
    (nodes_in c.find_or_add.new.store) = rw (c.deref-2.ensures.value, c.in_ok-call.ensures) at c.find_or_add.ensures.pushed in
    let adds = next_adds g.C.Operator.gives nodes c.requires.whole.nodes order c.args.finished.now.numbers.items f.count f.numbering f.closed
    (nodes_in c.args.part.now) c.requires.renamed c.args.node (node_of c.args.store.now.cells.items s) at c.requires.next
    (positions c.read_numbers.new.numbers.items) stand c.find_or_add.result (nodes_in c.find_or_add.new.store) pushed in
    let after = rw c.in-Ok.is at adds in
    ap length after ∙ length-append (nodes_in c.args.part.now)
    (next_node g.C.Operator.gives nodes c.requires.whole.nodes order c.args.finished.now.numbers.items f.count f.numbering f.closed (nodes_in c.args.part.now)
    c.requires.renamed c.args.node (node_of c.args.store.now.cells.items s) at c.requires.next (positions c.read_numbers.new.numbers.items) stand ∷ [])
