-- The checks of a certificate tell one thing.
use Rattle.std.specs.Prelude.{true, false, Option}
use Rattle.dcx_point.specs.Pairs.{Pairs}
use Rattle.dcx_tree.specs.declared.problem.Problem.{Problem}
use Rattle.dcx_cert_sections.specs.declared.cert.Cert.TheVariants.{Optimal, Infeasible, Unbounded}
use Rattle.dcx_cert_sections.specs.Checks.{Check, in_turn}
use Rattle.dcx_cert_sections.specs.Laws.{IsSettled}
use Rattle.dcx_cert_sections.proofs.Settled.{two}
use Rattle.dcx_cert_check.proofs.SingleSettled.{checks_settled}
use Rattle.dcx_cert_values.proofs.Settling.{settled_here}
use Rattle.dcx_cert_bound.proofs.Settled as bound
use Rattle.dcx_cert_bound.specs.Laws.{BoundsAreSettled}
use Rattle.dcx_cert_rays.proofs.Settled.{ray_settled}
use Rattle.dcx_cert_check.specs.Checks.{setting_checks, point_checks}
use Rattle.dcx_cert_check.specs.Laws.{TellsOneThing}

bounds_settled : BoundsAreSettled
bounds_settled = bound.bounds_settled settled_here.fixed

-- one check and another
both : {a b : Check} → IsSettled a → IsSettled b → IsSettled (in_turn a b)
both {a} {b} x y = two a b x y

module _ (p : Problem) (s : Pairs) where
  setting_settled : (params : Option Pairs) → IsSettled (setting_checks p s params)
  setting_settled params = both (checks_settled.setting_fits p s) (checks_settled.setting_is p params s)

  point_settled : (point : Pairs) → IsSettled (point_checks p s point)
  point_settled point = both (checks_settled.point_inside p point) (checks_settled.constraints_hold p s point)

pub tells_one_thing : TellsOneThing
tells_one_thing p s (Optimal number point duals weights params) =
    both (setting_settled p s params)
    (both (point_settled p s point) (both (checks_settled.value_is p s point number) (both (checks_settled.duals_signed p duals) (bounds_settled p s duals weights true number))))
tells_one_thing p s (Infeasible duals gap weights params) =
    both (setting_settled p s params) (both (checks_settled.duals_signed p duals) (both (checks_settled.gap_positive gap) (bounds_settled p s duals weights false gap)))
tells_one_thing p s (Unbounded point ray bound slope params) =
    both (setting_settled p s params)
    (both (point_settled p s point) (both (checks_settled.start_bounded p s point bound)
    (both (checks_settled.slope_positive slope) (both (checks_settled.ray_inside p ray) (ray_settled p s ray slope)))))
