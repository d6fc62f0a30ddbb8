-- The line of the template is the line of the multipliers.
use Rattle.std.proofs.Common.{◌∙◌, ap, ◌++◌}
use Rattle.dcx_cert_lines.specs.Templates.{dual_front}
use Rattle.dcx_cert_lines.proofs.Filled.{dual_ok}
use Rattle.dcx_cert_lines.proofs.arrays.read_dual.Goals as goal

pub returns-clause-read : goal.returns-clause-read
returns-clause-read c =
    let front = c.deref.ensures.value ∙ c.in_ok-put_dual_front.ensures {u = tt} ∙ ap (λ t. t ++ dual_front c.args.number c.args.shape) c.new-front.ensures.items in
    dual_ok c.args.number c.args.shape _ c.array.result _ _ _ _ front c.array.ensures.shape c.array.ensures.read
