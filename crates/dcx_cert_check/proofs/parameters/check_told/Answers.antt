-- One more parameter's values are those of the setting, or are the first that aren't.
use Rattle.std.proofs.Common.{◌≡◌, length, Some, refl, below_more}
use Rattle.std.specs.List.{slice_get}
use Rattle.std.proofs.lemmas.Option.{slice_get_read}
use Rattle.std.proofs.lemmas.Result.{err_from_is_err_and}
use Rattle.dcx_cert_sections.proofs.Turns.{each_fails}
use Rattle.dcx_cert_check.specs.SingleChecks.{parameter_is}
use Rattle.dcx_cert_check.proofs.Steps.{all_passed, at_place, at_passes, at_fails}
use Rattle.dcx_cert_check.proofs.parameters.check_told.Goals as goal

pub parameters-preserved : goal.parameters-preserved
parameters-preserved c =
    let xs = c.args.parameters.now in
    let x = c.index-parameters-k.result in
    let at : slice_get xs c.parameters.k ≡ Some x = slice_get_read xs (length xs) c.parameters.k x refl c.parameters-test.true c.index-parameters-k.is in
    below_more (λ k. (at_place xs (parameter_is c.args.told.now c.args.setting.now) k).passes) c.parameters.k c.parameters.invariant
    (at_passes xs (parameter_is c.args.told.now c.args.setting.now) c.parameters.k x at c.in_ok-check_parameter.ensures)

pub returns-in_err-check_parameter : goal.returns-in_err-check_parameter
returns-in_err-check_parameter c =
    let r = err_from_is_err_and c.from_residual.result c.from_residual.ensures.1 in
    let xs = c.args.parameters.now in
    let x = c.index-parameters-k.result in
    let at : slice_get xs c.parameters.k ≡ Some x = slice_get_read xs (length xs) c.parameters.k x refl c.parameters-test.true c.index-parameters-k.is in
    rw (r.1, r.2) (each_fails (length xs) (at_place xs (parameter_is c.args.told.now c.args.setting.now)) c.parameters.k _ c.parameters-test.true c.parameters.invariant
    (at_fails xs (parameter_is c.args.told.now c.args.setting.now) c.parameters.k x _ at c.in_err-check_parameter.ensures))

pub returns : goal.returns
returns c = all_passed (at_place c.args.parameters.now (parameter_is c.args.told.now c.args.setting.now)) (length c.args.parameters.now) c.parameters.k c.parameters-test.false c.parameters.invariant
