-- Another length or another node ends the comparison, and else it goes on by one cell.
use Rattle.std.proofs.Common.{◌∙◌, sym, arith}
use Rattle.dcx_arena.specs.Nodes.{positions}
use Rattle.dcx_arena.proofs.Positions.{length-positions, position_at}
use Rattle.dcx_arena.proofs.Walks.{too_long, goes_on, stops}
use Rattle.dcx_arena.proofs.store.is_chain_of.Goals as goal

pub returns-then-count-args : goal.returns-then-count-args
returns-then-count-args c = let n = length-positions c.args.args.now in (λ e. cc, λ e. absurd (too_long _ _ _ (positions c.args.args.now) (λ k. c.if-count-args.true (omega (arith, n, k))) e))

pub returns-then-cell-a : goal.returns-then-cell-a
returns-then-cell-a c =
    let n = length-positions c.args.args.now in
    let at = position_at c.args.args.now c.loop-a.a-index in (
      λ e. cc,
      λ e. absurd (stops c.args.cells.now c.args.count c.loop-a.a-index c.loop-a.at _ (positions c.args.args.now) (omega (arith, n)) (omega (arith, n))
          (λ k. c.if-cell-a.true (k ∙ at)) c.loop-a.invariant.rest e),
    )

pub loop-a-preserved : goal.loop-a-preserved
loop-a-preserved c =
    let n = length-positions c.args.args.now in
    let both = goes_on c.args.cells.now c.args.count c.loop-a.a-index c.loop-a.at _ (positions c.args.args.now) (omega (arith, n)) (omega (arith, n))
    (c.if-cell-a.false ∙ sym (position_at c.args.args.now c.loop-a.a-index)) c.loop-a.invariant.there c.loop-a.invariant.rest in
    record { there = both.0; rest = both.1 }
