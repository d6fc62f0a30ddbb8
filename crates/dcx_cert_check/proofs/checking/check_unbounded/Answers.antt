-- All values are kept when the ray is checked.
use Rattle.std.proofs.Common.{List, Option, sym, subst, [], ◌∷◌}
use Rattle.dcx_atom.specs.declared.array.Array.{Array}
use Rattle.dcx_cert_check.specs.SingleChecks.{start_bounded, slope_positive, ray_inside}
use Rattle.dcx_cert_values.proofs.Anywhere.{kept_alike}
use Rattle.dcx_cert_check.proofs.Below.{below_stays}
use Rattle.dcx_cert_sections.specs.Checks.{in_turn}
use Rattle.dcx_cert_sections.proofs.Turns.{second_checked}
use Rattle.dcx_cert_rays.specs.Rays.{ray_checks}
use Rattle.dcx_cert_rays.specs.Steepness.{AreFixedValues}
use Rattle.dcx_cert_check.specs.Checks.{point_checks}
use Rattle.dcx_cert_check.proofs.KeptTables.{fixed_kept}
use Rattle.dcx_cert_check.proofs.checking.check_unbounded.Goals as goal

pub check_point-requires-clause-kept : goal.check_point-requires-clause-kept
check_point-requires-clause-kept c = kept_alike c.args.problem.now c.args.setting.now [] c.args.point.now c.args.values.now c.requires.only c.requires.values

pub check_ray-requires-clause-values : goal.check_ray-requires-clause-values
check_ray-requires-clause-values c =
    let p = c.args.problem.now in
    let s = c.args.setting.now in
    let start = c.check_start_bound in
    subst (λ (xs : List (Option Array)). AreFixedValues p s xs) (sym c.as_slice.ensures)
    (fixed_kept p start.new.values c.in_ok-check_start_bound.ensures.below
    (λ k row at. below_stays p (row.left.0 ∷ row.right.0 ∷ []) c.check_point.new.values start.new.values start.ensures.stays (c.in_ok-check_point.ensures.below k row at))
    s c.args.point.now start.ensures.kept)

pub returns : goal.returns
returns c =
    let p = c.args.problem.now in
    let s = c.args.setting.now in
    let r = c.check_ray.result in
    let inside = ray_inside p c.args.ray.now in
    let along = ray_checks p s c.args.ray.now c.args.slope in
    let falls = slope_positive c.args.slope in
    second_checked (point_checks p s c.args.point.now) (in_turn (start_bounded p s c.args.point.now c.args.bound) (in_turn falls (in_turn inside along))) r c.in_ok-check_point.ensures.checked
    (second_checked (start_bounded p s c.args.point.now c.args.bound) (in_turn falls (in_turn inside along)) r c.in_ok-check_start_bound.ensures.checked
    (second_checked falls (in_turn inside along) r c.in_ok-check_descent.ensures
    (second_checked inside along r c.in_ok-check_ray_domain.ensures c.check_ray.ensures)))
