-- The next cell of the chain is there, and the node that it names is in the order.
use Rattle.std.proofs.Common.{◌<◌, ◌-◌, ◌+◌, ◌∷◌, [], map, length, rules, append_assoc}
use Rattle.std.specs.List.{slice_get}
use Rattle.std.proofs.lemmas.List.{map-append}
use Rattle.dcx_arena.specs.declared.node.NodeId.{NodeId}
use Rattle.dcx_arena.specs.Nodes.{positions}
use Rattle.dcx_arena.specs.Chains.{cell_at, chain}
use Rattle.dcx_arena.proofs.Orders.{has_one, tail_has}
use Rattle.dcx_arena.proofs.Walks.{next_cell}
use Rattle.dcx_arena.proofs.gather.read_numbers.Goals as goal

pub bounds-cells-at : goal.bounds-cells-at
bounds-cells-at c = (next_cell c.args.cells.now c.args.count c.loop.counter c.loop.at c.loop-test.true c.loop.invariant.there).0

pub offset_bounds-cells-at : goal.offset_bounds-cells-at
offset_bounds-cells-at c = let lt : c.loop.at < length c.args.cells.now = (next_cell c.args.cells.now c.args.count c.loop.counter c.loop.at c.loop-test.true c.loop.invariant.there).0 in search rules

pub number_of-requires-clause-there : goal.number_of-requires-clause-there
number_of-requires-clause-there c =
    let n = next_cell c.args.cells.now c.args.count c.loop.counter c.loop.at c.loop-test.true c.loop.invariant.there in
    c.loop.invariant.known _ (rw n.2 (has_one (cell_at c.args.cells.now c.loop.at).node (chain c.args.cells.now (c.args.count - (c.loop.counter + 1)) (cell_at c.args.cells.now c.loop.at).next)))

pub loop-preserved : goal.loop-preserved
loop-preserved c =
    let n = next_cell c.args.cells.now c.args.count c.loop.counter c.loop.at c.loop-test.true c.loop.invariant.there in
    let old = map (slice_get c.args.finished.now.order.items) (positions c.loop.numbers.items) in
    record {
      there = n.1;
      known = λ a h. c.loop.invariant.known a (rw n.2 (tail_has _ a _ h));
      rest = rw (
        c.in_ok-push.ensures.items,
        map-append (λ (a : NodeId). a.0) c.loop.numbers.items (c.number_of.result ∷ []),
        map-append
            (slice_get c.args.finished.now.order.items) (positions c.loop.numbers.items) (c.number_of.result.0 ∷ []),
        c.number_of.ensures,
        append_assoc,
      )
          (rw n.2 at c.loop.invariant.rest);
    }
