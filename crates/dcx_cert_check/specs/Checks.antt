-- The checks of a certificate at a setting, in order.
use Rattle.std.specs.Prelude.{true, false, List, Option}
use Rattle.dcx_frac.specs.declared.fraction.Frac.{Frac}
use Rattle.dcx_atom.specs.declared.array.Array.{Array}
use Rattle.dcx_point.specs.Pairs.{Pairs}
use Rattle.dcx_tree.specs.declared.problem.Problem.{Problem}
use Rattle.dcx_cert_sections.specs.declared.weights.NodeWeights.{NodeWeights}
use Rattle.dcx_cert_sections.specs.declared.cert.Cert.{Cert}
use Rattle.dcx_cert_sections.specs.declared.cert.Cert.TheVariants.{Optimal, Infeasible, Unbounded}
use Rattle.dcx_cert_sections.specs.Checks.{Check, in_turn}
use Rattle.dcx_cert_check.specs.SingleChecks.{setting_fits, setting_is, point_inside, ray_inside, constraints_hold, value_is, start_bounded, duals_signed, gap_positive, slope_positive}
use Rattle.dcx_cert_bound.specs.Checks.{bound_checks}
use Rattle.dcx_cert_rays.specs.Rays.{ray_checks}

-- the setting fits, and is the one whose values are told
abbrev pub setting_checks : Problem → Pairs → Option Pairs → Check
setting_checks p s params = in_turn (setting_fits p s) (setting_is p params s)

-- the point is feasible
abbrev pub point_checks : Problem → Pairs → Pairs → Check
point_checks p s point = in_turn (point_inside p point) (constraints_hold p s point)

-- the multipliers have their signs, and with the weights they bound the minimized objective, which is the stated value at a feasible point
abbrev pub optimal_checks : Problem → Pairs → Frac → Pairs → List Array → List NodeWeights → Check
optimal_checks p s number point duals weights =
    in_turn (point_checks p s point) (in_turn (value_is p s point number) (in_turn (duals_signed p duals) (bound_checks p s duals weights true number)))

-- the multipliers have their signs, and with the weights they leave a gap above 0 at every point
abbrev pub infeasible_checks : Problem → Pairs → List Array → Frac → List NodeWeights → Check
infeasible_checks p s duals gap weights = in_turn (duals_signed p duals) (in_turn (gap_positive gap) (bound_checks p s duals weights false gap))

-- from a feasible point, where the minimized objective is at most the bound, it falls along a ray that leaves neither the domain nor a
-- constraint
abbrev pub unbounded_checks : Problem → Pairs → Pairs → Pairs → Frac → Frac → Check
unbounded_checks p s point ray bound slope =
    in_turn (point_checks p s point) (in_turn (start_bounded p s point bound) (in_turn (slope_positive slope) (in_turn (ray_inside p ray) (ray_checks p s ray slope))))

abbrev pub checks_of : Problem → Pairs → Cert → Check
checks_of p s (Optimal number point duals weights params) = in_turn (setting_checks p s params) (optimal_checks p s number point duals weights)
checks_of p s (Infeasible duals gap weights params) = in_turn (setting_checks p s params) (infeasible_checks p s duals gap weights)
checks_of p s (Unbounded point ray bound slope params) = in_turn (setting_checks p s params) (unbounded_checks p s point ray bound slope)
