-- The laws of the checks of a ray: each tells one thing, and a ray that passes shows the problem to be unbounded.
use Rattle.std.specs.Prelude.{pos}
use Rattle.dcx_math.specs.Rational.{whole, ◌≤ℚ◌, ◌<ℚ◌}
use Rattle.dcx_frac.specs.declared.fraction.Frac.{Frac}
use Rattle.dcx_frac.specs.Frac.{value}
use Rattle.dcx_point.specs.Pairs.{Pairs}
use Rattle.dcx_tree.specs.declared.problem.Problem.{Problem}
use Rattle.dcx_tree.specs.Meaning.{setting_of, point_of, objective_at, IsAccepted, IsFitting, IsFeasible, IsInDomain, IsUnbounded}
use Rattle.dcx_cert_sections.specs.Laws.{IsSettled}
use Rattle.dcx_cert_rays.specs.Rays.{ray_checks}

-- no check of a ray both passes and fails, and one that fails has one fault
abbrev pub RayChecksAreSettled : Type 0
RayChecksAreSettled = (p : Problem) (setting ray : Pairs) (slope : Frac) → IsSettled (ray_checks p setting ray slope)

-- from a feasible point at which the objective is at most the bound, an accepted problem is unbounded along a ray in the domain that
-- passes its checks
abbrev pub PassedIsUnbounded : Type 0
PassedIsUnbounded = (p : Problem) → IsAccepted p → (setting : Pairs) → IsFitting p setting → (point ray : Pairs) (bound slope : Frac) →
    IsFeasible p (setting_of p setting) (point_of p point) → objective_at p (setting_of p setting) (point_of p point) ≤ℚ value bound →
    whole (pos 0) <ℚ value slope → IsInDomain p (point_of p ray) → (ray_checks p setting ray slope).passes →
    IsUnbounded p (setting_of p setting) (point_of p point) (point_of p ray) (value bound) (value slope)
