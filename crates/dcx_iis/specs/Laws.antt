-- What holds of the programs of all sets of constraints, and of all ends of the filter.
use Rattle.std.specs.Prelude.{◌≡◌, ℕ}
use Rattle.std.specs.List.{AllZip}
use Rattle.dcx_math.specs.Rational.{ℚ}
use Rattle.dcx_frac.specs.declared.fraction.Frac.{Frac}
use Rattle.dcx_convex.specs.Nodes.{Setting}
use Rattle.dcx_tree.specs.declared.problem.Problem.{Problem}
use Rattle.dcx_linear.specs.FormTerms.{Unknowns}
use Rattle.dcx_linear.specs.Rows.{IsSolution, IsInfeasible}
use Rattle.dcx_unknowns.specs.Unknowns.{point_at}
use Rattle.dcx_std.specs.Solutions.{linear_program}
use Rattle.dcx_answer.specs.declared.stop.Stop.{Stop}
use Rattle.dcx_graph.specs.Program.{Program}
use Rattle.dcx_graph.specs.Answers.{IsReducedAt, IsSamePoint}
use Rattle.dcx_answer.specs.declared.filtered.Filtered.{Filtered}
use Rattle.dcx_answer.specs.declared.filtered.Filtered.TheVariants as filtered
use Rattle.dcx_right.specs.Answers.{multipliers_in}
use Rattle.dcx_right.specs.ConstraintSets.{ConstraintSet, KeepsSet, IsImpossible}
use Rattle.dcx_right.specs.Filters.{IsRightFor}
use Rattle.dcx_iis.specs.Steps.{program_of_set, StopsAt}
use Rattle.dcx_iis.specs.Found.{IsFound}

-- ---- programs
-- solutions of the program of a set are points that keep it, and multipliers that show that it has none show that the set is impossible
pub record ProgramTells (p : Problem) (s : Setting) (q : Program Frac) (set : ConstraintSet) : Type 0 where
  pub kept : (x : Unknowns) → IsSolution (linear_program (program_of_set p q set)) x → KeepsSet p s set (point_at p.variables x)
  pub impossible : (gap : ℚ) (m : ℕ → ℚ) → IsInfeasible (linear_program (program_of_set p q set)) gap m → IsImpossible p s set

abbrev pub ProgramsTell : Type 0
ProgramsTell = (p : Problem) (s : Setting) (q : Program Frac) (set : ConstraintSet) → IsReducedAt p s q → ProgramTells p s q set

-- ---- ends
-- whatever the steps over a reduced program of a problem at a setting find is right for the problem there
abbrev pub FoundIsRight : Type 0
FoundIsRight = (p : Problem) (s : Setting) (q : Program Frac) (limit : ℕ) (found : Filtered) → IsReducedAt p s q → IsFound p q limit found → IsRightFor p s found

-- where something is found, no step stops and no multiplier passes
abbrev pub FoundOrStopped : Type 0
FoundOrStopped = (p : Problem) (s : Setting) (q : Program Frac) (limit step : ℕ) (found : Filtered) (stop : Stop) → IsReducedAt p s q → IsFound p q limit found → ¬ StopsAt p s q limit step stop

-- one step stops, with one stop
abbrev pub StopsAreOne : Type 0
StopsAreOne = (p : Problem) (s : Setting) (q : Program Frac) (limit step other : ℕ) (stop also : Stop) → StopsAt p s q limit step stop → StopsAt p s q limit other also → (step ≡ other) × (stop ≡ also)

-- ---- what is found
-- the same members with the same multipliers and the same gap, and the same points
abbrev pub IsSameFiltered : Problem → Filtered → Filtered → Type 0
IsSameFiltered p (filtered.Feasible x) (filtered.Feasible y) = IsSamePoint p x y
IsSameFiltered p (filtered.Feasible x) (filtered.Infeasible ns es h ys) = ⊥
IsSameFiltered p (filtered.Infeasible ms ds g xs) (filtered.Feasible y) = ⊥
IsSameFiltered p (filtered.Infeasible ms ds g xs) (filtered.Infeasible ns es h ys) =
    (ms ≡ ns) × ((k j : ℕ) → multipliers_in ds k j ≡ multipliers_in es k j) × (g ≡ h) × AllZip (IsSamePoint p) xs ys

-- the filter finds one thing
abbrev pub FoundIsOne : Type 0
FoundIsOne = (p : Problem) (s : Setting) (q : Program Frac) (limit : ℕ) (a b : Filtered) → IsReducedAt p s q → IsFound p q limit a → IsFound p q limit b → IsSameFiltered p a b
