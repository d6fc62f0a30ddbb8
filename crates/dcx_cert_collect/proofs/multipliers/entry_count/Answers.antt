-- The next node begins behind the entries so far.
use Rattle.std.proofs.Common.{◌∙◌, ◌<◌, ap, arith, length}
use Rattle.dcx_shape.specs.Sides.{entries_of}
use Rattle.dcx_cert_collect.proofs.Starting.{start_next}
use Rattle.dcx_cert_collect.proofs.multipliers.entry_count.Goals as goal

pub loop-i-preserved : goal.loop-i-preserved
loop-i-preserved c =
    let nodes = c.args.tree.now in
    let b : c.loop-i.i < length nodes = omega (arith, c.loop-i-test.true, c.nodes-i-end.ensures.count) in
    omega (arith, start_next nodes c.loop-i.i b, c.loop-i.invariant, c.size-count.ensures.value ∙ ap entries_of c.shape.ensures)
