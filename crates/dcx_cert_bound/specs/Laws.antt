-- What the bound checks show, as the clauses of the laws say it.
use Rattle.std.specs.Prelude.{◌≡◌, Bool, true, false, List, pos}
use Rattle.dcx_math.specs.Rational.{whole, ◌<ℚ◌}
use Rattle.dcx_frac.specs.declared.fraction.Frac.{Frac}
use Rattle.dcx_frac.specs.Frac.{value}
use Rattle.dcx_atom.specs.declared.array.Array.{Array}
use Rattle.dcx_atom.specs.Arrays.{numbers_of}
use Rattle.dcx_point.specs.Pairs.{Pairs}
use Rattle.dcx_lines.specs.Shown.{constraints_of}
use Rattle.dcx_convex.specs.Nodes.{Point}
use Rattle.dcx_convex.specs.Answers.{AreMultipliers}
use Rattle.dcx_tree.specs.declared.problem.Problem.{Problem}
use Rattle.dcx_tree.specs.Meaning.{convex_problem, setting_of, objective_at, IsAccepted, IsFeasible, IsOptimal, IsInfeasible}
use Rattle.dcx_cert_sections.specs.declared.weights.NodeWeights.{NodeWeights}
use Rattle.dcx_cert_outline.specs.Drawn.{problem_outline}
use Rattle.dcx_cert_sections.specs.Laws.{IsSettled}
use Rattle.dcx_cert_bound.specs.Checks.{bound_checks}

-- they tell one thing
abbrev pub BoundsAreSettled : Type 0
BoundsAreSettled = (p : Problem) (setting : Pairs) (duals : List Array) (weights : List NodeWeights) (with_objective : Bool) (stated : Frac) →
    IsSettled (bound_checks p setting duals weights with_objective stated)

-- where they pass with the objective, a feasible point of the stated value is optimal; where they pass without it for a gap above 0,
-- no point is feasible
pub record BoundShowsAnswers (p : Problem) (setting : Pairs) (duals : List Array) (weights : List NodeWeights) : Type 0 where
  pub optimal : (stated : Frac) → (bound_checks p setting duals weights true stated).passes → (x : Point) → IsFeasible p (setting_of p setting) x →
      objective_at p (setting_of p setting) x ≡ value stated → AreMultipliers (convex_problem p) (numbers_of duals) → IsOptimal p (setting_of p setting) (value stated) x (numbers_of duals)
  pub infeasible : (gap : Frac) → (bound_checks p setting duals weights false gap).passes → whole (pos 0) <ℚ value gap →
      AreMultipliers (convex_problem p) (numbers_of duals) → IsInfeasible p (setting_of p setting) (numbers_of duals) (value gap)

-- so it is in an accepted problem, where the multipliers are as many and of the shapes of its constraints
abbrev pub BoundsShowAnswers : Type 0
BoundsShowAnswers = (p : Problem) (setting : Pairs) (duals : List Array) (weights : List NodeWeights) → IsAccepted p →
    constraints_of duals ≡ (problem_outline p).constraints → BoundShowsAnswers p setting duals weights
