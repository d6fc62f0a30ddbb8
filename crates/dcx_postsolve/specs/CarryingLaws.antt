-- The law that right answers of the linear program are right for the reduced program.
use Rattle.std.specs.Prelude.{ℕ}
use Rattle.dcx_math.specs.Rational.{ℚ}
use Rattle.dcx_convex.specs.Problems.{Problem}
use Rattle.dcx_convex.specs.Reductions.{Unknowns, Reduced, IsRightOptimal, IsRightInfeasible, IsRightUnbounded}
use Rattle.dcx_linear.specs.Rows.{LinearProgram, IsOptimal, IsInfeasible, IsUnbounded}
use Rattle.dcx_postsolve.specs.Programs.{IsProgramOf, multipliers_of}

-- each right answer of the linear program l is one of the reduced program r, with the multipliers of the rows of constraints as
-- those of the constraints
pub record AnswersCarryOver (l : LinearProgram) (p : Problem) (r : Reduced) : Type 0 where
  pub optimal : (v : ℚ) (x : Unknowns) (m : ℕ → ℚ) → IsOptimal l v x m → (w : ℕ → ℚ) × IsRightOptimal p r v x (multipliers_of p m) w
  pub infeasible : (gap : ℚ) (m : ℕ → ℚ) → IsInfeasible l gap m → (w : ℕ → ℚ) × IsRightInfeasible p r (multipliers_of p m) w gap
  pub unbounded : (x d : Unknowns) (bound slope : ℚ) → IsUnbounded l x d bound slope → IsRightUnbounded p r x d bound slope

abbrev pub ProgramsCarryOver : Type 0
ProgramsCarryOver = (l : LinearProgram) (p : Problem) (r : Reduced) → IsProgramOf l p r → AnswersCarryOver l p r
