-- One more variable is shown by its name and its shape.
use Rattle.std.proofs.Common.{ap, arith}
use Rattle.dcx_cert_sections.specs.Outlines.{shown}
use Rattle.dcx_cert_outline.proofs.Nodes.{mapped_more}
use Rattle.dcx_cert_outline.proofs.drawing.variables_of.Goals as goal

pub loop-variable-preserved : goal.loop-variable-preserved
loop-variable-preserved c =
    mapped_more shown (λ x. (x.name, x.shape)) c.loop-variable.list.items c.push.new.self.items _ c.args.variables.now c.loop-variable.variable-index c.variable-item.result
    (omega arith) c.variable-item.is c.loop-variable.invariant
    (ap (λ name. (name, c.variable-item.result.shape)) (c.in_ok-copy_name.ensures {u = tt})) c.in_ok-push.ensures.items
