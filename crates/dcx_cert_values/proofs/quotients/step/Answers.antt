-- One check and then the other.
use Rattle.dcx_cert_values.specs.Forming.{forming_at, IsBelowDivisor, dividing_at}
use Rattle.std.proofs.Common.{[]}
use Rattle.std.proofs.lemmas.Result.{err_from_is_err_and}
use Rattle.dcx_cert_sections.proofs.Turns.{second_checked, first_failed}
use Rattle.dcx_cert_values.proofs.Keeping.{stays_some}
use Rattle.dcx_cert_values.proofs.quotients.step.Goals as goal

pub test_quotient-requires-clause-divisor : goal.test_quotient-requires-clause-divisor
test_quotient-requires-clause-divisor c = λ d is. stays_some c.args.values.now c.form_below.new.values c.form_below.ensures.stays d (c.requires.divisor d is)

pub returns-in_err-form_below-clause-checked : goal.returns-in_err-form_below-clause-checked
returns-in_err-form_below-clause-checked c =
    let p = c.args.problem.now in
    let s = c.args.setting.now in
    let i = c.args.node.0 in
    let r = err_from_is_err_and c.from_residual.result c.from_residual.ensures.1 in
    rw (r.1, r.2) (first_failed (forming_at p s [] (IsBelowDivisor p) i) (dividing_at p s i) _ c.in_err-form_below.ensures.checked)

pub returns-clause-checked : goal.returns-clause-checked
returns-clause-checked c =
    let p = c.args.problem.now in
    let s = c.args.setting.now in
    let i = c.args.node.0 in
    second_checked (forming_at p s [] (IsBelowDivisor p) i) (dividing_at p s i) c.test_quotient.result c.in_ok-form_below.ensures.checked c.test_quotient.ensures
