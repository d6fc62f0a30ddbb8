-- The line of the template is the line of the weights.
use Rattle.std.proofs.Common.{◌∙◌, ap, sym, ◌++◌}
use Rattle.dcx_cert_lines.specs.Templates.{filled, node_front}
use Rattle.dcx_cert_lines.proofs.Filled.{read_as, node_is}
use Rattle.dcx_cert_lines.proofs.arrays.read_node.Goals as goal

pub returns-clause-read : goal.returns-clause-read
returns-clause-read c =
    let front = c.deref.ensures.value ∙ c.in_ok-put_node_front.ensures {u = tt} ∙ ap (λ t. t ++ node_front c.args.atom.node.0) c.new-front.ensures.items in
    let same = ap (λ ns. filled c.deref.result.now ns) (sym c.from_vec.ensures) ∙ ap (λ f. filled f c.from_vec.result) front
    ∙ sym (node_is (record { node = c.args.atom.node; numbers = c.from_vec.result })) in
    read_as _ _ _ _ _ _ same c.in_ok-numbers.ensures.read
