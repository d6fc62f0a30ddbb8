-- Part after part is appended.
use Rattle.std.proofs.Common.{◌++◌, ap, sym, ◌∙◌}
use Rattle.std.proofs.lemmas.Result.{IfOk-equal}
use Rattle.std.specs.Prelude.{codes}
use Rattle.std.specs.List.{flat_map}
use Rattle.dcx_lines.specs.Lines.{named_line, number_line}
use Rattle.dcx_cert_lines.specs.CertText.{end_line}
use Rattle.dcx_cert_text.specs.Written.{params_text}
use Rattle.dcx_cert_text.proofs.Joined.{six, unbounded_text}
use Rattle.dcx_cert_text.proofs.write.put_unbounded.Goals as goal

pub returns : goal.returns
returns c =
    let params = params_text c.args.params.now in
    let bound = number_line (codes "bound") c.args.bound in
    let slope = number_line (codes "slope") c.args.slope in
    let point = flat_map (named_line (codes "var")) c.args.point.now in
    let ray = flat_map (named_line (codes "ray")) c.args.ray.now in
    let so_far = c.in_ok-put_named_lines-2.ensures {u = tt} ∙ ap (λ o. o ++ ray)
    (c.in_ok-put_named_lines.ensures {u = tt} ∙ ap (λ o. o ++ point) (c.in_ok-put_number_line-2.ensures {u = tt}
    ∙ ap (λ o. o ++ slope) (c.in_ok-put_number_line.ensures {u = tt} ∙ ap (λ o. o ++ bound) (c.in_ok-put_params.ensures {u = tt})))) in
    IfOk-equal _ _ _ _ c.put_end.ensures
    (ap (λ o. o ++ end_line) so_far ∙ six c.args.out.now.items params bound slope point ray end_line
    ∙ ap (λ t. c.args.out.now.items ++ t) (sym (unbounded_text c.args.point.now c.args.ray.now c.args.bound c.args.slope c.args.params.now)))
