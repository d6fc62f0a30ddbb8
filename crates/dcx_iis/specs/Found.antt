-- What filtering finds, as the programs of its steps tell: a feasible point; or constraints that no point keeps together, with what shows
-- it, and with each of them a point that keeps all the others.
use Rattle.std.specs.Prelude.{◌≡◌, ◌≢◌, ℕ, ◌<◌, IsTrue, List, All, length, pos}
use Rattle.std.specs.List.{AllZip}
use Rattle.dcx_math.specs.Rational.{whole}
use Rattle.dcx_math.specs.Rising.{IsRising}
use Rattle.dcx_frac.specs.declared.fraction.Frac.{Frac}
use Rattle.dcx_atom.specs.declared.array.Array.{Array}
use Rattle.dcx_point.specs.Pairs.{Pairs}
use Rattle.dcx_tree.specs.declared.problem.Problem.{Problem}
use Rattle.dcx_postsolve.specs.Duals.{AreDuals}
use Rattle.dcx_right.specs.Answers.{multipliers_in}
use Rattle.dcx_right.specs.ConstraintSets.{every_constraint, set_of}
use Rattle.dcx_right.specs.Filters.{HasShapeOf}
use Rattle.dcx_lp_answer.specs.declared.answer.LpStatus.TheVariants as status
use Rattle.dcx_lp_answer.specs.declared.answer.LpAnswer.{LpAnswer}
use Rattle.dcx_lp_solve.specs.declared.solving.Solved.{Solved}
use Rattle.dcx_graph.specs.Program.{Program}
use Rattle.dcx_graph.specs.Answers.{IsPointRead}
use Rattle.dcx_answer.specs.declared.filtered.Filtered.{Filtered}
use Rattle.dcx_answer.specs.declared.filtered.Filtered.TheVariants as filtered
use Rattle.dcx_iis.specs.Steps.{kept_of, IsStep, IsShownImpossible, IsDecided, IsReadAt, IsLastImpossible}

-- the program of all constraints can be solved, and the point is read from its answer
pub record IsPossible (p : Problem) (q : Program Frac) (limit : ℕ) (point : Pairs) : Type 0 where
  pub solved : Solved
  pub is_step : IsStep p q limit every_constraint solved
  pub some : solved.answer.status ≢ status.Infeasible
  pub read : IsPointRead p q.kinds solved.answer.columns point

-- the program of all constraints can't be solved, and in the steps after it these members stay, rising; the gap and the multipliers of the
-- members are those of the last program that can't be solved, which is that of the set, and those of all other constraints are 0; each
-- point is read from the answer of the step that tries its member
pub record AreFound (p : Problem) (q : Program Frac) (limit : ℕ) (members : List ℕ) (duals : List Array) (gap : Frac) (points : List Pairs) : Type 0 where
  pub rising : IsRising (λ k. k) members
  pub within : All (λ k. k < length p.constraints) members
  pub first : (answer : LpAnswer) × IsShownImpossible p q limit every_constraint answer
  pub decided : (k : ℕ) → k < length p.constraints → IsDecided p q limit (set_of members) k
  pub step : ℕ
  pub last : IsLastImpossible (length p.constraints) (set_of members) step
  pub answer : LpAnswer
  pub shown : IsShownImpossible p q limit (set_of members) answer
  pub gap_is : gap ≡ answer.number
  pub formed : AreDuals status.Infeasible (kept_of (set_of members) p.constraints) answer.rows (kept_of (set_of members) duals)
  pub shaped : AllZip HasShapeOf p.constraints duals
  pub others : (k : ℕ) → ¬ IsTrue (set_of members k) → (j : ℕ) → multipliers_in duals k j ≡ whole (pos 0)
  pub read : AllZip (IsReadAt p q limit (set_of members)) members points

abbrev pub IsFound : Problem → Program Frac → ℕ → Filtered → Type 0
IsFound p q limit (filtered.Feasible point) = IsPossible p q limit point
IsFound p q limit (filtered.Infeasible members duals gap points) = AreFound p q limit members duals gap points
