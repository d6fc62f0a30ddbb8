-- The cells that are added are a chain, and it names the arguments in their order.
use Rattle.std.proofs.Common.{◌≤◌, ◌∙◌, length, arith}
use Rattle.dcx_arena.specs.Nodes.{positions}
use Rattle.dcx_arena.proofs.Positions.{length-positions, position_at}
use Rattle.dcx_arena.proofs.Cells.{IsChain-new, chain-new, next_cells, all_cells}
use Rattle.dcx_arena.proofs.store.add_cells.Goals as goal

pub loop-a-preserved : goal.loop-a-preserved
loop-a-preserved c =
    let n = length-positions c.args.args.now in
    let e = position_at c.args.args.now c.loop-a.a-index in
    next_cells c.loop-a.cells.items c.push.new.self.items c.args.cells.now.items (positions c.args.args.now) c.loop-a.a-index _ (omega (arith, n)) c.loop-a.invariant
    (c.len-next.ensures ∙ c.loop-a.cells.ok.0) (rw e c.in_ok-push.ensures.items)

pub returns-clause-there : goal.returns-clause-there
returns-clause-there c =
    let n = length-positions c.args.args.now in
    let le : length (positions c.args.args.now) ≤ c.loop-a.a-index = omega (arith, n) in
    rw (← n) (IsChain-new c.loop-a.cells.items c.args.cells.now.items (positions c.args.args.now)
    (all_cells c.loop-a.cells.items c.args.cells.now.items (positions c.args.args.now) c.loop-a.a-index le c.loop-a.invariant))

pub returns-clause-chain : goal.returns-clause-chain
returns-clause-chain c =
    let n = length-positions c.args.args.now in
    let le : length (positions c.args.args.now) ≤ c.loop-a.a-index = omega (arith, n) in
    rw (← n) (chain-new c.loop-a.cells.items c.args.cells.now.items (positions c.args.args.now)
    (all_cells c.loop-a.cells.items c.args.cells.now.items (positions c.args.args.now) c.loop-a.a-index le c.loop-a.invariant))
