-- The names are asked first, and then the parameters.
use Rattle.std.proofs.Common.{◌≡◌, ◌↔◌, List, Err, IsOk, IfErr, subst, rules}
use Rattle.dcx_call.specs.declared.attribute.Parameter.{Parameter}
use Rattle.dcx_fit.specs.Fit.{FitsParameters, IsFirstMisfit}
use Rattle.dcx_fit.proofs.Misfits.{both, exact, stops, stopped}
use Rattle.dcx_fit.proofs.parameters.fit.Goals as goal

pub returns-in_err-are_known-clause-fits : goal.returns-in_err-are_known-clause-fits
returns-in_err-are_known-clause-fits c =
    let same : c.from_residual.result ≡ Err c.in_err-are_known.field-0.0 = search rules in
    let given = c.args.setting.now in
    let ps = c.as_slice-parameters.result.now in
    subst (λ (qs : List Parameter). IsOk c.from_residual.result ↔ FitsParameters qs given) c.as_slice-parameters.ensures
    (exact ps given c.from_residual.result (stopped ps given c.from_residual.result c.in_err-are_known.field-0.0 same c.in_err-are_known.ensures))

pub returns-in_err-are_known-clause-stops : goal.returns-in_err-are_known-clause-stops
returns-in_err-are_known-clause-stops c =
    let same : c.from_residual.result ≡ Err c.in_err-are_known.field-0.0 = search rules in
    let given = c.args.setting.now in
    let ps = c.as_slice-parameters.result.now in
    subst (λ (qs : List Parameter). IfErr c.from_residual.result (IsFirstMisfit qs given)) c.as_slice-parameters.ensures
    (stops ps given c.from_residual.result (stopped ps given c.from_residual.result c.in_err-are_known.field-0.0 same c.in_err-are_known.ensures))

pub returns-clause-fits : goal.returns-clause-fits
returns-clause-fits c =
    let given = c.args.setting.now in
    let ps = c.as_slice-parameters.result.now in
    subst (λ (qs : List Parameter). IsOk c.are_met.result ↔ FitsParameters qs given) c.as_slice-parameters.ensures
    (exact ps given c.are_met.result (both ps given c.are_met.result c.in_ok-are_known.ensures c.are_met.ensures))

pub returns-clause-stops : goal.returns-clause-stops
returns-clause-stops c =
    let given = c.args.setting.now in
    let ps = c.as_slice-parameters.result.now in
    subst (λ (qs : List Parameter). IfErr c.are_met.result (IsFirstMisfit qs given)) c.as_slice-parameters.ensures
    (stops ps given c.are_met.result (both ps given c.are_met.result c.in_ok-are_known.ensures c.are_met.ensures))
