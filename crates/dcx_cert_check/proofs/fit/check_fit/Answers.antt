-- The parameters first, and then the divisors.
use Rattle.std.proofs.lemmas.Result.{err_from_is_err_and}
use Rattle.dcx_cert_sections.proofs.Turns.{second_checked, first_failed}
use Rattle.dcx_cert_values.specs.Forming.{divisors}
use Rattle.dcx_cert_check.specs.SingleChecks.{parameters_fit}
use Rattle.dcx_arena.proofs.Results.{on_ok}
use Rattle.dcx_cert_check.proofs.Given.{arrays_given}
use Rattle.dcx_cert_check.proofs.fit.check_fit.Goals as goal

pub divisors-requires-clause-parameters : goal.divisors-requires-clause-parameters
divisors-requires-clause-parameters c = arrays_given.parameters c.args.problem.now c.args.setting.now c.in_ok-check_parameters.ensures

pub returns-in_err-check_parameters-clause-checked : goal.returns-in_err-check_parameters-clause-checked
returns-in_err-check_parameters-clause-checked c =
    let r = err_from_is_err_and c.from_residual.result c.from_residual.ensures.1 in
    rw (r.1, r.2) (first_failed (parameters_fit c.args.problem.now c.args.setting.now) (divisors c.args.problem.now c.args.setting.now) _ c.in_err-check_parameters.ensures)

pub returns-clause-checked : goal.returns-clause-checked
returns-clause-checked c =
    second_checked (parameters_fit c.args.problem.now c.args.setting.now) (divisors c.args.problem.now c.args.setting.now) c.divisors.result c.in_ok-check_parameters.ensures c.divisors.ensures.checked

pub returns-clause-parameters : goal.returns-clause-parameters
returns-clause-parameters c = on_ok c.divisors.result (arrays_given.parameters c.args.problem.now c.args.setting.now c.in_ok-check_parameters.ensures)
