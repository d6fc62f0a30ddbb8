-- What a step shows, and what is left after some steps: in terms of the programs that are solved.
use Rattle.std.specs.Prelude.{◌≡◌, ◌≢◌, ◌⊎◌, ⊤, ℕ, suc, ◌<◌, ◌≤◌, IsTrue, if◌then◌else◌, Bool, List, [], ◌∷◌, ◌++◌, length, take, Some}
use Rattle.std.specs.List.{AllZip}
use Rattle.dcx_frac.specs.declared.fraction.Frac.{Frac}
use Rattle.dcx_frac.specs.declared.fraction.Passes.{Passes}
use Rattle.dcx_tree.specs.declared.problem.Problem.{Problem}
use Rattle.dcx_right.specs.ConstraintSets.{ConstraintSet, every_constraint}
use Rattle.dcx_lp_answer.specs.declared.answer.LpStatus.TheVariants as status
use Rattle.dcx_lp_answer.specs.declared.answer.LpAnswer.{LpAnswer}
use Rattle.dcx_lp_answer.specs.Multipliers.{passing_from}
use Rattle.dcx_atom.specs.declared.array.Array.{Array}
use Rattle.dcx_postsolve.specs.Duals.{all_multipliers, AreDuals}
use Rattle.dcx_answer.specs.declared.stop.Stop.{Stop}
use Rattle.dcx_answer.specs.declared.stop.Stop.TheVariants as stops
use Rattle.dcx_answer.specs.declared.site.Site.TheVariants as sites
use Rattle.dcx_lp_solve.specs.declared.solving.Solved.{Solved}
use Rattle.dcx_lp_solve.specs.declared.stop.SolveStop.{SolveStop}
use Rattle.dcx_lp_solve.specs.declared.stop.SolveStop.TheVariants as solves
use Rattle.dcx_lp_solve.specs.Solved.{Stops}
use Rattle.dcx_lp_solve.specs.Stops.{run_stop}
use Rattle.dcx_graph.specs.Program.{Program}
use Rattle.dcx_graph.specs.Answers.{IsPointRead}
use Rattle.dcx_answer.specs.declared.filter_stop.FilterStop.{FilterStop}
use Rattle.dcx_answer.specs.declared.filter_stop.FilterStop.TheVariants as filter
use Rattle.dcx_answer.specs.declared.filtered.Filtered.{Filtered}
use Rattle.dcx_answer.specs.declared.filtered.Filtered.TheVariants as filtered
use Rattle.dcx_iis.specs.declared.trying.Tried.{Tried}
use Rattle.dcx_iis.specs.declared.trying.Tried.TheVariants as tried
use Rattle.dcx_iis.specs.declared.left.Left.{Left}
use Rattle.dcx_iis.specs.Multipliers.{AreSpread}
use Rattle.dcx_iis.specs.Steps.{flagged, kept_of, program_of_set, step_set, IsStep, IsShownImpossible, IsDecided, IsReadAt, IsLastImpossible}

-- ---- one step
-- what an answer shows: the point of its unknowns, or that there is none
abbrev pub IsShownBy : Problem → Program Frac → LpAnswer → Tried → Type 0
IsShownBy p q a (tried.Possible point) = (a.status ≢ status.Infeasible) × IsPointRead p q.kinds a.columns point
IsShownBy p q a (tried.Impossible answer) = (a.status ≡ status.Infeasible) × (answer ≡ a)

abbrev pub IsTried : Problem → Program Frac → ℕ → ConstraintSet → Tried → Type 0
IsTried p q limit set t = (solved : Solved) × IsStep p q limit set solved × IsShownBy p q solved.answer t

-- the stop of a step whose program isn't solved
abbrev pub step_stop : ℕ → SolveStop → FilterStop
step_stop step solves.Memory = filter.Memory
step_stop step stop = filter.Step step (run_stop stop)

-- a step whose program isn't solved
abbrev pub StopsTry : Problem → Program Frac → ℕ → ConstraintSet → ℕ → FilterStop → Type 0
StopsTry p q limit set step (filter.Step i stop) = (i ≡ step) × (inner : SolveStop) × (inner ≢ solves.Memory) × Stops limit (program_of_set p q set) inner × (stop ≡ run_stop inner)
StopsTry p q limit set step filter.Memory = ⊤

-- ---- what is left
-- the numbers of the flags that are set, the first of which has the number i
abbrev pub numbers_from : ℕ → List Bool → List ℕ
numbers_from i [] = []
numbers_from i (flag ∷ flags) = (if flag then i ∷ [] else []) ++ numbers_from (suc i) flags

-- what is left once the first n constraints are tried
pub record IsLeft (p : Problem) (q : Program Frac) (limit n : ℕ) (l : Left) : Type 0 where
  pub flags : length l.kept.items ≡ length p.constraints
  pub later : (k : ℕ) → n ≤ k → IsTrue (flagged l.kept.items k)
  pub first : (answer : LpAnswer) × IsShownImpossible p q limit every_constraint answer
  pub decided : (k : ℕ) → k < n → IsDecided p q limit (flagged l.kept.items) k
  pub shown : IsShownImpossible p q limit (flagged l.kept.items) l.answer
  pub last : IsLastImpossible n (flagged l.kept.items) l.step
  pub points : AllZip (IsReadAt p q limit (flagged l.kept.items)) (numbers_from 0 (take n l.kept.items)) l.points.items

-- ---- the end
-- the constraints that are kept have the multipliers of the last answer, and the others zeros
abbrev pub AreDualsOf : Problem → Left → List Array → Type 0
AreDualsOf p l duals =
    (formed : List Array) × AreDuals l.answer.status (kept_of (flagged l.kept.items) p.constraints) l.answer.rows formed × AreSpread (flagged l.kept.items) p.constraints formed duals

-- what is told of what is left
abbrev pub IsEnd : Problem → Left → Filtered → Type 0
IsEnd p l (filtered.Feasible point) = ⊥
IsEnd p l (filtered.Infeasible members duals gap points) = (members ≡ numbers_from 0 l.kept.items) × AreDualsOf p l duals × (gap ≡ l.answer.number) × (points ≡ l.points.items)

-- ---- stops
-- the program of this step isn't solved, and those before it are
pub record StopsTrying (p : Problem) (q : Program Frac) (limit step : ℕ) (stop : Stop) : Type 0 where
  pub set : ConstraintSet
  pub within : step ≤ length p.constraints
  pub first : 0 < step → (answer : LpAnswer) × IsShownImpossible p q limit every_constraint answer
  pub decided : (k : ℕ) → suc k < step → IsDecided p q limit set k
  pub inner : SolveStop
  pub some : inner ≢ solves.Memory
  pub stops : Stops limit (program_of_set p q (step_set set step)) inner
  pub told : stop ≡ run_stop inner

-- a multiplier of the last step that was impossible passes, the first
pub record StopsForming (p : Problem) (q : Program Frac) (limit step : ℕ) (stop : Stop) : Type 0 where
  pub set : ConstraintSet
  pub first : (answer : LpAnswer) × IsShownImpossible p q limit every_constraint answer
  pub decided : (k : ℕ) → k < length p.constraints → IsDecided p q limit set k
  pub last : IsLastImpossible (length p.constraints) set step
  pub answer : LpAnswer
  pub shown : IsShownImpossible p q limit set answer
  pub row : ℕ
  pub passes : Passes
  pub passing : passing_from 0 (all_multipliers status.Infeasible (kept_of set p.constraints) answer.rows) ≡ Some (row, passes)
  pub told : stop ≡ stops.Wide (sites.Answer row passes)

abbrev pub StopsRun : Problem → Program Frac → ℕ → FilterStop → Type 0
StopsRun p q limit (filter.Step step stop) = StopsTrying p q limit step stop ⊎ StopsForming p q limit step stop
StopsRun p q limit filter.Memory = ⊤
