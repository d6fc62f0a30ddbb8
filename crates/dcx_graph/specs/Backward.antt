-- Answers of the linear program of a problem as answers of the problem.
use Rattle.std.specs.Prelude.{ℕ, IsTrue}
use Rattle.dcx_math.specs.Rational.{ℚ}
use Rattle.dcx_convex.specs.Nodes.{Setting}
use Rattle.dcx_convex.specs.Rules.{Rules}
use Rattle.dcx_convex.specs.Problems.{accepted_by}
use Rattle.dcx_tree.specs.declared.problem.Problem.{Problem}
use Rattle.dcx_tree.specs.Meaning as meaning
use Rattle.dcx_tree.specs.Meaning.{convex_problem, Fits}
use Rattle.dcx_linear.specs.FormTerms.{Unknowns}
use Rattle.dcx_linear.specs.Rows as rows
use Rattle.dcx_linear.specs.Rows.{LinearProgram}
use Rattle.dcx_unknowns.specs.Unknowns.{point_at}
use Rattle.dcx_postsolve.specs.Programs.{multipliers_of}
use Rattle.dcx_graph.specs.AsLinear.{IsReductionAt}

-- each right answer of the linear program is one of the problem: with the point, or the ray, of its unknowns, and the multipliers
-- of the rows of constraints
pub record CarriesOver (p : Problem) (s : Setting) (l : LinearProgram) : Type 0 where
  pub optimal : (v : ℚ) (x : Unknowns) (m : ℕ → ℚ) → rows.IsOptimal l v x m → meaning.IsOptimal p s v (point_at p.variables x) (multipliers_of (convex_problem p) m)
  pub infeasible : (gap : ℚ) (m : ℕ → ℚ) → rows.IsInfeasible l gap m → meaning.IsInfeasible p s (multipliers_of (convex_problem p) m) gap
  pub unbounded : (x d : Unknowns) (bound slope : ℚ) → rows.IsUnbounded l x d bound slope → meaning.IsUnbounded p s (point_at p.variables x) (point_at p.variables d) bound slope

-- the rules accept the problem, the setting fits, and the linear program is that of a reduced program of the problem there
abbrev pub AnswersCarryOver : Type 0
AnswersCarryOver = (rules : Rules) (p : Problem) (s : Setting) (l : LinearProgram) → IsTrue (accepted_by rules (convex_problem p)) → Fits p s → IsReductionAt rules p s l → CarriesOver p s l
