-- The line of the template is the line of the array.
use Rattle.std.proofs.Common.{◌∙◌, ap, ◌++◌}
use Rattle.dcx_cert_lines.specs.Templates.{named_front}
use Rattle.dcx_cert_lines.proofs.Filled.{named_ok}
use Rattle.dcx_cert_lines.proofs.arrays.read_named.Goals as goal

pub returns-clause-read : goal.returns-clause-read
returns-clause-read c =
    let front = c.deref.ensures.value ∙ c.in_ok-put_named_front.ensures {u = tt} ∙ ap (λ t. t ++ named_front c.args.word.now c.args.named.now.name c.args.named.now.shape) c.new-front.ensures.items in
    named_ok c.args.word.now c.args.named.now.name c.args.named.now.shape _ c.array.result _ _ _ _ front c.array.ensures.shape c.array.ensures.read
