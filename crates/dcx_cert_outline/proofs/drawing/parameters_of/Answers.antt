-- One more parameter is shown by its name and its shape.
use Rattle.std.proofs.Common.{ap, arith}
use Rattle.dcx_cert_sections.specs.Outlines.{shown}
use Rattle.dcx_cert_outline.proofs.Nodes.{mapped_more}
use Rattle.dcx_cert_outline.proofs.drawing.parameters_of.Goals as goal

pub loop-parameter-preserved : goal.loop-parameter-preserved
loop-parameter-preserved c =
    mapped_more shown (λ x. (x.name, x.shape)) c.loop-parameter.list.items c.push.new.self.items _ c.args.parameters.now c.loop-parameter.parameter-index c.parameter-item.result
    (omega arith) c.parameter-item.is c.loop-parameter.invariant
    (ap (λ name. (name, c.parameter-item.result.shape)) (c.in_ok-copy_name.ensures {u = tt})) c.in_ok-push.ensures.items
