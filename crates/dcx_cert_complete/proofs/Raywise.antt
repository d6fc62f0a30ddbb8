-- The checks of an unbounded certificate fail with nothing but an operation that passes, where the problem is unbounded along its ray.
use Rattle.std.proofs.Common.{◌≡◌, inl, inr, ℕ, Option, Some, None, option_map, slice_get, ap, ◌∙◌, refl}
use Rattle.std.proofs.lemmas.Option.{slice_get-map}
use Rattle.dcx_frac.specs.declared.fraction.Frac.{Frac}
use Rattle.dcx_frac.specs.Frac.{value}
use Rattle.dcx_point.specs.Pairs.{Pairs}
use Rattle.dcx_tree.specs.declared.constraint.Constraint.{Constraint}
use Rattle.dcx_tree.specs.declared.problem.Problem.{Problem}
use Rattle.dcx_tree.specs.Meaning.{convex_constraint, convex_problem, setting_of, point_of, IsAccepted, Fits, IsUnbounded}
use Rattle.dcx_right.specs.Rays.{IsRay}
use Rattle.dcx_cert_rays.specs.Rays.{constraint_check, constraints_check, value_check, ray_checks}
use Rattle.dcx_cert_check.specs.Checks.{unbounded_checks}
use Rattle.dcx_cert_complete.specs.Certified.{FailsWide}
use Rattle.dcx_cert_complete.proofs.Descent.{unbounded_goes_by_rays}
use Rattle.dcx_cert_complete.proofs.Pointwise.{point_wide, start_wide, ray_never, slope_never}

module _ (p : Problem) (setting point ray : Pairs) (bound slope : Frac) (shown : IsRay (convex_problem p) (setting_of p setting) (point_of p point) (point_of p ray) (value bound) (value slope)) where
  constraint_wide : (k : ℕ) (o : Option Constraint) → slice_get p.constraints k ≡ o → FailsWide (constraint_check p setting ray k o)
  constraint_wide k None e f h = absurd h
  constraint_wide k (Some c) e f (inl h) = let stop = h.here.1 in (stop.passes, stop.told)
  constraint_wide k (Some c) e f (inr (formed, h)) =
      absurd (h.here (shown.rows k (convex_constraint c) (slice_get-map convex_constraint p.constraints k ∙ ap (option_map convex_constraint) e) h.entry h.within))

  constraints_wide : FailsWide (constraints_check p setting ray)
  constraints_wide f h = constraint_wide h.position (slice_get p.constraints h.position) refl f h.here

  value_wide : FailsWide (value_check p setting ray slope)
  value_wide f (inl h) = let stop = h.here.1 in (stop.passes, stop.told)
  value_wide f (inr (formed, h)) = absurd (h.0 shown.falls)

  steps_wide : FailsWide (ray_checks p setting ray slope)
  steps_wide f (inl h) = constraints_wide f h
  steps_wide f (inr (passed, h)) = value_wide f h

pub descent_wide : (p : Problem) (setting point ray : Pairs) (bound slope : Frac) → IsAccepted p → Fits p (setting_of p setting) →
    IsUnbounded p (setting_of p setting) (point_of p point) (point_of p ray) (value bound) (value slope) → FailsWide (unbounded_checks p setting point ray bound slope)
descent_wide p setting point ray bound slope ok fits h = by
  where
    shown : IsRay (convex_problem p) (setting_of p setting) (point_of p point) (point_of p ray) (value bound) (value slope)
    shown = unbounded_goes_by_rays p ok (setting_of p setting) fits (point_of p point) (point_of p ray) (value bound) (value slope) h

    by : FailsWide (unbounded_checks p setting point ray bound slope)
    by f (inl k) = point_wide p setting point fits shown.feasible f k
    by f (inr (inside, inl k)) = start_wide p setting point fits bound shown.start f k
    by f (inr (inside, inr (started, inl k))) = absurd (slope_never slope shown.positive f k)
    by f (inr (inside, inr (started, inr (positive, inl k)))) = absurd (ray_never p ray shown.domain f k)
    by f (inr (inside, inr (started, inr (positive, inr (out, k))))) = steps_wide p setting point ray bound slope shown f k
