-- The next cell of the chain is there, and its node comes behind those so far.
use Rattle.std.proofs.Common.{◌≡◌, ◌<◌, ◌+◌, ◌-◌, ◌++◌, ◌∷◌, [], arith, sym, ap, ◌∙◌, append_assoc}
use Rattle.std.proofs.lemmas.List.{map-append}
use Rattle.dcx_arena.specs.declared.node.NodeId.{NodeId}
use Rattle.dcx_arena.specs.Nodes.{positions}
use Rattle.dcx_arena.specs.Chains.{cell_at, chain}
use Rattle.dcx_arena.proofs.Walks.{next_cell}
use Rattle.dcx_arena.proofs.store.ids_in.Goals as goal

pub offset_bounds-cells-at : goal.offset_bounds-cells-at
offset_bounds-cells-at c =
    let lt : c.loop.counter < c.args.count = omega (arith, c.loop-test.true) in
    let b = (next_cell c.args.cells.now c.args.count c.loop.counter c.loop.at lt c.loop.invariant.there).0 in
    omega (arith, b)

pub bounds-cells-at : goal.bounds-cells-at
bounds-cells-at c =
    let lt : c.loop.counter < c.args.count = omega (arith, c.loop-test.true) in
    (next_cell c.args.cells.now c.args.count c.loop.counter c.loop.at lt c.loop.invariant.there).0

pub loop-preserved : goal.loop-preserved
loop-preserved c =
    let lt : c.loop.counter < c.args.count = omega (arith, c.loop-test.true) in
    let cell = cell_at c.args.cells.now c.loop.at in
    let n = next_cell c.args.cells.now c.args.count c.loop.counter c.loop.at lt c.loop.invariant.there in
    let more : positions c.push.new.self.items ≡ positions c.loop.ids.items ++ cell.node ∷ [] =
    ap positions c.in_ok-push.ensures.items ∙ map-append (λ (a : NodeId). a.0) c.loop.ids.items _ in
    let left = chain c.args.cells.now (c.args.count - (c.loop.counter + 1)) cell.next in
    record {
      there = n.1;
      rest = ap (λ xs. xs ++ left) more ∙ append_assoc (positions c.loop.ids.items) (cell.node ∷ []) left ∙ ap (λ xs. positions c.loop.ids.items ++ xs) (sym n.2) ∙ c.loop.invariant.rest;
    }
