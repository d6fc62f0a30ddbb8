-- The laws of single checks: each tells one thing, and what they show where they pass.
use Rattle.std.specs.Prelude.{◌≡◌, ℕ, ◌<◌, ◌↔◌, List, map, Option, Some}
use Rattle.std.specs.List.{All}
use Rattle.dcx_math.specs.Rational.{◌≤ℚ◌}
use Rattle.dcx_frac.specs.declared.fraction.Frac.{Frac}
use Rattle.dcx_frac.specs.Frac.{value}
use Rattle.dcx_shape.specs.Shape.{sides_of}
use Rattle.dcx_shape.specs.Sides.{entries_of}
use Rattle.dcx_atom.specs.declared.array.Array.{Array}
use Rattle.dcx_atom.specs.Arrays.{numbers_of}
use Rattle.dcx_point.specs.Pairs.{Pairs}
use Rattle.dcx_convex.specs.Answers.{AreMultipliers}
use Rattle.dcx_call.specs.Values.{given_by}
use Rattle.dcx_tree.specs.declared.problem.Problem.{Problem}
use Rattle.dcx_tree.specs.Meaning.{IsAccepted, IsFitting, IsFeasible, IsInDomain, IsDomainPoint, objective_at, convex_problem, setting_of, point_of}
use Rattle.dcx_fit.specs.Fit.{FitsParameters}
use Rattle.dcx_lines.specs.Shown.{variables_of}
use Rattle.dcx_cert_sections.specs.Laws.{IsSettled}
use Rattle.dcx_cert_values.specs.Forming.{GivesParameters, GivesVariables}
use Rattle.dcx_cert_check.specs.SingleChecks.{setting_fits, setting_is, point_inside, ray_inside, constraints_hold, value_is, start_bounded, duals_signed, gap_positive, slope_positive}

-- no check both passes and fails, and one that fails has one fault
pub record AreSettled : Type 0 where
  pub setting_fits : (p : Problem) (setting : Pairs) → IsSettled (setting_fits p setting)
  pub setting_is : (p : Problem) (told : Option Pairs) (setting : Pairs) → IsSettled (setting_is p told setting)
  pub point_inside : (p : Problem) (point : Pairs) → IsSettled (point_inside p point)
  pub ray_inside : (p : Problem) (ray : Pairs) → IsSettled (ray_inside p ray)
  pub constraints_hold : (p : Problem) (setting point : Pairs) → IsSettled (constraints_hold p setting point)
  pub value_is : (p : Problem) (setting point : Pairs) (stated : Frac) → IsSettled (value_is p setting point stated)
  pub start_bounded : (p : Problem) (setting point : Pairs) (bound : Frac) → IsSettled (start_bounded p setting point bound)
  pub duals_signed : (p : Problem) (duals : List Array) → IsSettled (duals_signed p duals)
  pub gap_positive : (gap : Frac) → IsSettled (gap_positive gap)
  pub slope_positive : (slope : Frac) → IsSettled (slope_positive slope)

-- what is shown where the checks pass
pub record AreSound : Type 0 where
  pub fitting : (p : Problem) (setting : Pairs) → IsAccepted p → (setting_fits p setting).passes → IsFitting p setting
  pub told : (p : Problem) (told setting : Pairs) → (setting_is p (Some told) setting).passes
      ↔ All (λ q. (j : ℕ) → j < entries_of (sides_of q.shape) → given_by told q.name j ≡ given_by setting q.name j) p.parameters
  pub point : (p : Problem) (point : Pairs) → (point_inside p point).passes ↔ IsInDomain p (point_of p point)
  pub domain_point : (p : Problem) (point : Pairs) → GivesVariables p point → (point_inside p point).passes → IsDomainPoint p point
  pub ray : (p : Problem) (ray : Pairs) → (ray_inside p ray).passes ↔ IsInDomain p (point_of p ray)
  pub feasible : (p : Problem) (setting point : Pairs) → (point_inside p point).passes → (constraints_hold p setting point).passes → IsFeasible p (setting_of p setting) (point_of p point)
  pub objective : (p : Problem) (setting point : Pairs) (stated : Frac) → (value_is p setting point stated).passes → objective_at p (setting_of p setting) (point_of p point) ≡ value stated
  pub start : (p : Problem) (setting point : Pairs) (bound : Frac) → (start_bounded p setting point bound).passes → objective_at p (setting_of p setting) (point_of p point) ≤ℚ value bound
  pub multipliers : (p : Problem) (duals : List Array) → (duals_signed p duals).passes ↔ AreMultipliers (convex_problem p) (numbers_of duals)

-- a setting that fits gives each parameter its array, and a point with the names and the shapes of the variables, in order,
-- gives each variable its array
pub record AreGivenArrays : Type 0 where
  pub parameters : (p : Problem) (setting : Pairs) → FitsParameters p.parameters setting → GivesParameters p setting
  pub variables : (p : Problem) (point : Pairs) → variables_of point ≡ map (λ v. (v.name, v.shape)) p.variables → GivesVariables p point
