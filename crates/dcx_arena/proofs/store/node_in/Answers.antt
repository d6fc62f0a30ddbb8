-- Each turn goes one cell on, and behind i turns stands the cell that is asked for.
use Rattle.std.proofs.Common.{◌≡◌, ◌<◌, arith}
use Rattle.dcx_arena.specs.Chains.{chain}
use Rattle.dcx_arena.proofs.Walks.{cell_next, cell_is, next_cell}
use Rattle.dcx_arena.proofs.store.node_in.Goals as goal

pub loop-preserved : goal.loop-preserved
loop-preserved c =
    let lt : c.loop.counter < c.args.count = omega (arith, c.requires.below, c.loop-test.true) in
    record {
      there = (next_cell c.args.cells.now c.args.count c.loop.counter c.loop.at lt c.loop.invariant.there).1;
      rest = cell_next c.args.cells.now c.args.count c.loop.counter c.loop.at _ lt c.loop.invariant.there c.loop.invariant.rest;
    }

pub returns : goal.returns
returns c =
    let e : c.loop.counter ≡ c.args.i = omega arith in
    let lt : c.loop.counter < c.args.count = omega (arith, c.requires.below) in
    rw (← e) (cell_is c.args.cells.now c.args.count c.loop.counter c.loop.at (chain c.args.cells.now c.args.count c.args.first) lt c.loop.invariant.there c.loop.invariant.rest)
