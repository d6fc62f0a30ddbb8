-- One more constraint is kept, or is the first that isn't.
use Rattle.std.proofs.Common.{◌<◌, length, slice_get, ap, arith, below_more}
use Rattle.std.proofs.lemmas.Result.{err_from_is_err_and}
use Rattle.dcx_cert_sections.proofs.Turns.{each_fails}
use Rattle.dcx_cert_rays.specs.Rays.{constraint_check}
use Rattle.dcx_cert_rays.proofs.checks.check_constraints.Goals as goal

pub loop-number-init : goal.loop-number-init
loop-number-init c = record { kept = c.requires.kept; passed = λ k b. absurd (omega arith) }

pub loop-number-preserved : goal.loop-number-preserved
loop-number-preserved c =
    let a = c.args.along.now in
    record {
      kept = c.in_ok-check_constraint.ensures.kept;
      passed = below_more (λ k. (constraint_check a.problem.now a.setting.now a.ray.now k (slice_get a.problem.now.constraints k)).passes) c.loop-number.number c.loop-number.invariant.passed
          c.in_ok-check_constraint.ensures.checked;
    }

pub returns-in_err-check_constraint-clause-checked : goal.returns-in_err-check_constraint-clause-checked
returns-in_err-check_constraint-clause-checked c =
    let a = c.args.along.now in
    let below : c.loop-number.number < length a.problem.now.constraints = omega (arith, ap length c.as_slice.ensures, c.loop-number-test.true) in
    let r = err_from_is_err_and c.from_residual.result c.from_residual.ensures.1 in
    rw (r.1, r.2) (each_fails (length a.problem.now.constraints) (λ k. constraint_check a.problem.now a.setting.now a.ray.now k
    (slice_get a.problem.now.constraints k)) c.loop-number.number c.in_err-check_constraint.field-0.0 below
    c.loop-number.invariant.passed c.in_err-check_constraint.ensures.checked)
