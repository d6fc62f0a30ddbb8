-- What is collected is told, or its stop is.
use Rattle.std.proofs.Common.{Result, Err}
use Rattle.std.proofs.lemmas.Result.{err_from_is_err_and}
use Rattle.dcx_answer.specs.declared.cert_fault.CertFault.{CertFault}
use Rattle.dcx_cert_bound.specs.Weights.{weights_at}
use Rattle.dcx_cert_bound.specs.Collecting.{collected}
use Rattle.dcx_cert_bound.proofs.Falling.{is_collected}
use Rattle.dcx_cert_bound.proofs.Making.{collected_told, stop_told, shown_same}
use Rattle.dcx_cert_bound.proofs.checking.check_with.Goals as goal

pub check_collected-requires : goal.check_collected-requires
check_collected-requires c =
    (is_collected c.args.problem.now c.args.values.now c.as_slice.result.now (weights_at c.as_slice-2.result.now) c.args.with_objective _ c.in_ok-collected.ensures.ok).to.within

pub returns : goal.returns
returns c =
    let p = c.args.problem.now in
    let weights = c.as_slice-2.result.now in
    shown_same p c.as_slice.result.now c.args.duals.now weights c.args.weights.now c.args.with_objective c.args.stated c.args.values.now c.check_collected.result c.as_slice.ensures
    c.as_slice-2.ensures
    (collected_told p c.args.values.now (weights_at weights) c.args.stated
    (collected p c.args.values.now c.as_slice.result.now (weights_at weights) c.args.with_objective) _ c.in_ok-collected.ensures.ok
    c.in_ok-collected.ensures.fractions c.check_collected.result c.check_collected.ensures)

pub returns-in_err-collected : goal.returns-in_err-collected
returns-in_err-collected c =
    let r = err_from_is_err_and c.from_residual.result c.from_residual.ensures.1 in
    let p = c.args.problem.now in
    let weights = c.as_slice-2.result.now in
    let stopped : Result (Unit {0}) CertFault = Err c.in_err-collected.field-0.0 in
    rw (r.1, r.2)
    (shown_same p c.as_slice.result.now c.args.duals.now weights c.args.weights.now c.args.with_objective c.args.stated c.args.values.now stopped c.as_slice.ensures c.as_slice-2.ensures
    (stop_told p c.args.values.now (weights_at weights) c.args.stated (collected p c.args.values.now c.as_slice.result.now
    (weights_at weights) c.args.with_objective) c.in_err-collected.field-0.0 c.in_err-collected.ensures.fault))
