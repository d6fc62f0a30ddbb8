-- One more holds, or is the first that doesn't.
use Rattle.std.proofs.Common.{◌≡◌, List, length, Some, refl, ap, subst, arith, below_more as one_more}
use Rattle.std.specs.List.{slice_get}
use Rattle.std.proofs.lemmas.Option.{slice_get_read, slice_get_within}
use Rattle.std.proofs.lemmas.Result.{err_from_is_err_and}
use Rattle.dcx_tree.specs.declared.constraint.Constraint.{Constraint}
use Rattle.dcx_cert_sections.proofs.Turns.{each_fails}
use Rattle.dcx_cert_check.specs.SingleChecks.{constraint_holds}
use Rattle.dcx_cert_check.proofs.Below.{below_more}
use Rattle.dcx_cert_check.proofs.Steps.{all_passed, at_place, at_passes, at_fails}
use Rattle.dcx_cert_check.proofs.constraints.check_constraints.Goals as goal

pub constraints-init : goal.constraints-init
constraints-init c = ((λ k lt. absurd (omega (arith, lt))), c.requires.kept, (λ j row lt. absurd (omega (arith, lt))))

pub check_constraint-requires-clause-kept : goal.check_constraint-requires-clause-kept
check_constraint-requires-clause-kept c = c.constraints.invariant.1

pub constraints-preserved : goal.constraints-preserved
constraints-preserved c =
    let xs = c.as_slice-constraints.result.now in
    let p = c.args.problem.now in
    let check = constraint_holds p c.args.setting.now c.args.point.now in
    let x = c.index-constraints-k.result in
    let at : slice_get p.constraints c.constraints.k ≡ Some x =
    subst (λ (cs : List Constraint). slice_get cs c.constraints.k ≡ Some x) c.as_slice-constraints.ensures
    (slice_get_read xs (length xs) c.constraints.k x refl c.constraints-test.true c.index-constraints-k.is) in (
      one_more (λ k. (at_place p.constraints check k).passes) c.constraints.k c.constraints.invariant.0 (at_passes p.constraints check c.constraints.k x at c.in_ok-check_constraint.ensures.checked),
      c.check_constraint.ensures.kept,
      below_more p c.constraints.k x at c.constraints.values c.check_constraint.new.values c.constraints.invariant.2 c.check_constraint.ensures.stays c.in_ok-check_constraint.ensures.below,
    )

pub returns-in_err-check_constraint-clause-checked : goal.returns-in_err-check_constraint-clause-checked
returns-in_err-check_constraint-clause-checked c =
    let r = err_from_is_err_and c.from_residual.result c.from_residual.ensures.1 in
    let xs = c.as_slice-constraints.result.now in
    let p = c.args.problem.now in
    let check = constraint_holds p c.args.setting.now c.args.point.now in
    let x = c.index-constraints-k.result in
    let same : length xs ≡ length p.constraints = ap length c.as_slice-constraints.ensures in
    let below = c.constraints-test.true in
    let at : slice_get p.constraints c.constraints.k ≡ Some x =
    subst (λ (cs : List Constraint). slice_get cs c.constraints.k ≡ Some x) c.as_slice-constraints.ensures (slice_get_read xs (length xs) c.constraints.k x refl below c.index-constraints-k.is) in
    rw (r.1, r.2) (each_fails (length p.constraints) (at_place p.constraints check) c.constraints.k _ (omega (arith, below, same)) c.constraints.invariant.0
    (at_fails p.constraints check c.constraints.k x _ at c.in_err-check_constraint.ensures.checked))

pub returns-clause-checked : goal.returns-clause-checked
returns-clause-checked c =
    let p = c.args.problem.now in
    let same : length c.as_slice-constraints.result.now ≡ length p.constraints = ap length c.as_slice-constraints.ensures in
    let past = c.constraints-test.false in
    all_passed (at_place p.constraints (constraint_holds p c.args.setting.now c.args.point.now)) (length p.constraints) c.constraints.k (omega (arith, same, past)) c.constraints.invariant.0

pub returns-clause-kept : goal.returns-clause-kept
returns-clause-kept c = c.constraints.invariant.1

pub returns-clause-below : goal.returns-clause-below
returns-clause-below c =
    let p = c.args.problem.now in
    let same : length c.as_slice-constraints.result.now ≡ length p.constraints = ap length c.as_slice-constraints.ensures in
    let past = c.constraints-test.false in
    λ k row at.
    let there = slice_get_within p.constraints k row at in
    c.constraints.invariant.2 k row (omega (arith, same, past, there)) at
