-- Part after part is appended.
use Rattle.std.proofs.Common.{◌++◌, ap, sym, ◌∙◌}
use Rattle.std.proofs.lemmas.Result.{IfOk-equal}
use Rattle.std.specs.Prelude.{codes}
use Rattle.std.specs.List.{flat_map, enumerate_from}
use Rattle.dcx_lines.specs.Lines.{dual_line, number_line}
use Rattle.dcx_cert_lines.specs.CertText.{end_line, node_line}
use Rattle.dcx_cert_text.specs.Written.{params_text}
use Rattle.dcx_cert_text.proofs.Joined.{three, infeasible_text}
use Rattle.dcx_cert_text.proofs.write.put_infeasible.Goals as goal

pub returns : goal.returns
returns c =
    let params = params_text c.args.params.now in
    let gap = number_line (codes "gap") c.args.gap in
    let shown = flat_map dual_line (enumerate_from 1 c.args.duals.now) ++ (flat_map node_line c.args.weights.now ++ end_line) in
    let so_far = c.in_ok-put_number_line.ensures {u = tt} ∙ ap (λ o. o ++ gap) (c.in_ok-put_params.ensures {u = tt}) in
    IfOk-equal _ _ _ _ c.put_shown.ensures
    (ap (λ o. o ++ shown) so_far ∙ three c.args.out.now.items params gap shown
    ∙ ap (λ t. c.args.out.now.items ++ t) (sym (infeasible_text c.args.duals.now c.args.gap c.args.weights.now c.args.params.now)))
