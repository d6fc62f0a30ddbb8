-- One more constraint's multipliers have their signs, or are the first that don't.
use Rattle.std.proofs.Common.{◌≡◌, length, Some, Result, Ok, Err, refl, below_more}
use Rattle.std.specs.List.{slice_get}
use Rattle.std.proofs.lemmas.Option.{slice_get_read}
use Rattle.std.proofs.lemmas.Result.{err_from_is_err_and}
use Rattle.dcx_answer.specs.declared.cert_fault.CertFault.{CertFault}
use Rattle.dcx_cert_sections.proofs.Turns.{each_fails}
use Rattle.dcx_cert_check.specs.SingleChecks.{multipliers_signed}
use Rattle.dcx_cert_check.proofs.Demands.{looked_up}
use Rattle.dcx_cert_check.proofs.Steps.{all_passed, at_place, at_passes, at_fails}
use Rattle.dcx_cert_check.proofs.duals.check_each.Goals as goal

pub constraints-preserved : goal.constraints-preserved
constraints-preserved c =
    let xs = c.args.constraints.now in
    let x = c.index-constraints-k.result in
    let at : slice_get xs c.constraints.k ≡ Some x = slice_get_read xs (length xs) c.constraints.k x refl c.constraints-test.true c.index-constraints-k.is in
    below_more (λ k. (at_place xs (multipliers_signed c.args.duals.now) k).passes) c.constraints.k c.constraints.invariant
    (at_passes xs (multipliers_signed c.args.duals.now) c.constraints.k x at (looked_up c.args.duals.now c.constraints.k x _ c.array_at.ensures
    (Ok c.in_ok-check_multipliers.field-0) c.in_ok-check_multipliers.ensures))

pub returns-in_err-check_multipliers : goal.returns-in_err-check_multipliers
returns-in_err-check_multipliers c =
    let r = err_from_is_err_and c.from_residual.result c.from_residual.ensures.1 in
    let xs = c.args.constraints.now in
    let x = c.index-constraints-k.result in
    let at : slice_get xs c.constraints.k ≡ Some x = slice_get_read xs (length xs) c.constraints.k x refl c.constraints-test.true c.index-constraints-k.is in
    let stopped : Result (Unit {0}) CertFault = Err c.in_err-check_multipliers.field-0.0 in
    rw (r.1, r.2) (each_fails (length xs) (at_place xs (multipliers_signed c.args.duals.now)) c.constraints.k _ c.constraints-test.true c.constraints.invariant
    (at_fails xs (multipliers_signed c.args.duals.now) c.constraints.k x _ at (looked_up c.args.duals.now c.constraints.k x _ c.array_at.ensures stopped c.in_err-check_multipliers.ensures)))

pub returns : goal.returns
returns c = all_passed (at_place c.args.constraints.now (multipliers_signed c.args.duals.now)) (length c.args.constraints.now) c.constraints.k c.constraints-test.false c.constraints.invariant
