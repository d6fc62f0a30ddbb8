-- The next node begins behind this one.
use Rattle.std.proofs.Common.{◌∙◌, ap}
use Rattle.std.proofs.Common.{◌<◌, length, arith}
use Rattle.dcx_shape.specs.Sides.{entries_of}
use Rattle.dcx_cert_collect.proofs.Starting.{start_next, start_item}
use Rattle.dcx_cert_collect.proofs.places.starts_of.Goals as goal

pub loop-i-preserved : goal.loop-i-preserved
loop-i-preserved c =
    let nodes = c.args.tree.now in
    let b : c.loop-i.i < length nodes = omega (arith, c.loop-i-test.true, c.nodes-i-end.ensures.count) in (
      start_item nodes c.loop-i.i c.loop-i.starts.items c.push.new.self.items c.loop-i.next c.in_ok-push.ensures.items c.loop-i.invariant.0 c.loop-i.invariant.1,
      omega (arith, start_next nodes c.loop-i.i b, c.loop-i.invariant.1, c.size-next.ensures.value ∙ ap entries_of c.shape.ensures),
    )
