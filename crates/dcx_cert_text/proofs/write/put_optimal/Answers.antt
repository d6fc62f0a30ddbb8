-- Part after part is appended.
use Rattle.std.proofs.Common.{◌++◌, ap, sym, ◌∙◌}
use Rattle.std.proofs.lemmas.Result.{IfOk-equal}
use Rattle.std.specs.Prelude.{codes}
use Rattle.std.specs.List.{flat_map, enumerate_from}
use Rattle.dcx_lines.specs.Lines.{named_line, dual_line, number_line}
use Rattle.dcx_cert_lines.specs.CertText.{end_line, node_line}
use Rattle.dcx_cert_text.specs.Written.{params_text}
use Rattle.dcx_cert_text.proofs.Joined.{four, optimal_text}
use Rattle.dcx_cert_text.proofs.write.put_optimal.Goals as goal

pub returns : goal.returns
returns c =
    let params = params_text c.args.params.now in
    let value = number_line (codes "value") c.args.value in
    let point = flat_map (named_line (codes "var")) c.args.point.now in
    let shown = flat_map dual_line (enumerate_from 1 c.args.duals.now) ++ (flat_map node_line c.args.weights.now ++ end_line) in
    let so_far = c.in_ok-put_named_lines.ensures {u = tt} ∙ ap (λ o. o ++ point) (c.in_ok-put_number_line.ensures {u = tt} ∙ ap (λ o. o ++ value) (c.in_ok-put_params.ensures {u = tt})) in
    IfOk-equal _ _ _ _ c.put_shown.ensures
    (ap (λ o. o ++ shown) so_far ∙ four c.args.out.now.items params value point shown
    ∙ ap (λ t. c.args.out.now.items ++ t) (sym (optimal_text c.args.value c.args.point.now c.args.duals.now c.args.weights.now c.args.params.now)))
