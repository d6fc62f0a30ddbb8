-- That the setting fits is checked first.
use Rattle.std.proofs.lemmas.Result.{err_from_is_err_and}
use Rattle.dcx_cert_sections.proofs.Turns.{first_failed}
use Rattle.dcx_cert_check.specs.SingleChecks.{setting_fits, setting_is}
use Rattle.dcx_cert_check.proofs.checking.check_setting.Goals as goal

pub returns-in_err-check_fit-clause-checked : goal.returns-in_err-check_fit-clause-checked
returns-in_err-check_fit-clause-checked c =
    let r = err_from_is_err_and c.from_residual.result c.from_residual.ensures.1 in
    rw (r.1, r.2) (first_failed (setting_fits c.args.problem.now c.args.setting.now) (setting_is c.args.problem.now c.args.params.now c.args.setting.now) _ c.in_err-check_fit.ensures.checked)
