-- The programs that the filter solves, one in each step, and what stops it.
use Rattle.std.specs.Prelude.{◌≡◌, ◌≢◌, ⊤, ℕ, zero, suc, ◌<◌, ◌≤◌, ◌↔◌, Bool, true, IsTrue, if◌then◌else◌, List, [], ◌∷◌, ◌++◌, length, take, drop, slice_index_or, Some}
use Rattle.dcx_frac.specs.declared.fraction.Frac.{Frac}
use Rattle.dcx_frac.specs.declared.fraction.Passes.{Passes}
use Rattle.dcx_atom.specs.Formed.{zero_frac}
use Rattle.dcx_point.specs.Pairs.{Pairs}
use Rattle.dcx_convex.specs.Nodes.{Setting}
use Rattle.dcx_tree.specs.declared.constraint.Constraint.{Constraint}
use Rattle.dcx_tree.specs.declared.problem.Problem.{Problem}
use Rattle.dcx_right.specs.ConstraintSets.{ConstraintSet, every_constraint, left_beside, IsImpossible, StayBelow, IsFilterSet}
use Rattle.dcx_linear.specs.Forms.{is_constant}
use Rattle.dcx_unknowns.specs.Layout.{constraint_rows}
use Rattle.dcx_lp_answer.specs.declared.answer.LpStatus.TheVariants as status
use Rattle.dcx_lp_answer.specs.declared.answer.LpAnswer.{LpAnswer}
use Rattle.dcx_lp_answer.specs.Multipliers.{passing_from}
use Rattle.dcx_std.specs.GivenRows.{GivenRows, given}
use Rattle.dcx_std.specs.Solutions.{HasKinds}
use Rattle.dcx_postsolve.specs.Duals.{all_multipliers}
use Rattle.dcx_answer.specs.declared.stop.Stop.{Stop}
use Rattle.dcx_answer.specs.declared.stop.Stop.TheVariants as stops
use Rattle.dcx_answer.specs.declared.site.Site.TheVariants as sites
use Rattle.dcx_lp_solve.specs.declared.solving.Solved.{Solved}
use Rattle.dcx_lp_solve.specs.declared.stop.SolveStop.{SolveStop}
use Rattle.dcx_lp_solve.specs.declared.stop.SolveStop.TheVariants as solves
use Rattle.dcx_lp_solve.specs.Solved.{IsSolved, Stops}
use Rattle.dcx_lp_solve.specs.Stops.{run_stop}
use Rattle.dcx_graph.specs.Program.{Program}
use Rattle.dcx_graph.specs.Answers.{IsPointRead}
use Rattle.dcx_answer.specs.declared.filter_stop.FilterStop.{FilterStop}
use Rattle.dcx_answer.specs.declared.filter_stop.FilterStop.TheVariants as filter

-- ---- programs
-- the constraints whose flags are set, and all beyond the flags
abbrev pub flagged : List Bool → ConstraintSet
flagged flags k = slice_index_or flags k true

-- the constraints that step i solves: in step 0 all, and then those that are left beside the constraint that it tries
abbrev pub step_set : ConstraintSet → ℕ → ConstraintSet
step_set set zero = every_constraint
step_set set (suc k) = left_beside set k

-- the items of the set, the first of which has the number i
abbrev pub kept_from : {A : Type 0} → ConstraintSet → ℕ → List A → List A
kept_from set i [] = []
kept_from set i (x ∷ xs) = (if set i then x ∷ [] else []) ++ kept_from set (suc i) xs

-- the constraints of the set
abbrev pub kept_of : {A : Type 0} → ConstraintSet → List A → List A
kept_of set xs = kept_from set 0 xs

-- the rows of the constraints of the set, and then those of atoms: the rows begin with those of these constraints, the first of which has
-- the number i
abbrev pub rows_from : {A : Type 0} → ConstraintSet → ℕ → List Constraint → List A → List A
rows_from set i [] rows = rows
rows_from set i (c ∷ cs) rows = (if set i then take (constraint_rows c) rows else []) ++ rows_from set (suc i) cs (drop (constraint_rows c) rows)

-- the program with the rows of the constraints of the set, where nothing is to be small
abbrev pub program_of_set : Problem → Program Frac → ConstraintSet → GivenRows
program_of_set p q set = given q.kinds (rows_from set 0 p.constraints q.rows) (is_constant zero_frac)

-- ---- steps
-- the program of the set is solved so, and names unknowns of its own alone
pub record IsStep (p : Problem) (q : Program Frac) (limit : ℕ) (set : ConstraintSet) (solved : Solved) : Type 0 where
  pub known : HasKinds (program_of_set p q set)
  pub is_solved : IsSolved limit (program_of_set p q set) solved

-- the program of the set can't be solved, and this is its answer
abbrev pub IsShownImpossible : Problem → Program Frac → ℕ → ConstraintSet → LpAnswer → Type 0
IsShownImpossible p q limit set answer = (solved : Solved) × IsStep p q limit set solved × (solved.answer.status ≡ status.Infeasible) × (answer ≡ solved.answer)

-- constraint k stays in the set exactly where the program of those that are left beside it can be solved
pub record IsDecided (p : Problem) (q : Program Frac) (limit : ℕ) (set : ConstraintSet) (k : ℕ) : Type 0 where
  pub solved : Solved
  pub is_step : IsStep p q limit (left_beside set k) solved
  pub stays : IsTrue (set k) ↔ (solved.answer.status ≢ status.Infeasible)

-- the program of step i is solved, where the constraints before the one that it tries stay as the set has it
abbrev pub IsSolvedAt : Problem → Program Frac → ℕ → ConstraintSet → ℕ → Solved → Type 0
IsSolvedAt p q limit set i solved = IsSolved limit (program_of_set p q (step_set set i)) solved

abbrev pub HasAnswer : Problem → Program Frac → ℕ → ConstraintSet → ℕ → Type 0
HasAnswer p q limit set i = (solved : Solved) × IsSolvedAt p q limit set i solved

-- the point is read from the answer of step i
pub record IsReadIn (p : Problem) (q : Program Frac) (limit : ℕ) (set : ConstraintSet) (i : ℕ) (point : Pairs) : Type 0 where
  pub solved : Solved
  pub is_solved : IsSolvedAt p q limit set i solved
  pub read : IsPointRead p q.kinds solved.answer.columns point

-- and from that of the step that tries constraint k
abbrev pub IsReadAt : Problem → Program Frac → ℕ → ConstraintSet → ℕ → Pairs → Type 0
IsReadAt p q limit set k point = IsReadIn p q limit set (suc k) point

-- of n constraints the last that was left out was tried in this step, and none where it is step 0
pub record IsLastImpossible (n : ℕ) (set : ConstraintSet) (step : ℕ) : Type 0 where
  pub within : step ≤ n
  pub left_out : (k : ℕ) → step ≡ suc k → ¬ IsTrue (set k)
  pub stay : (k : ℕ) → step ≤ k → k < n → IsTrue (set k)

-- ---- stops
-- the program of this step stops, and those of all steps before are solved
pub record StopsInStep (p : Problem) (s : Setting) (q : Program Frac) (limit step : ℕ) (stop : Stop) : Type 0 where
  pub set : ConstraintSet
  pub within : step ≤ length p.constraints
  pub impossible : 0 < step → IsImpossible p s every_constraint
  pub stay : (k : ℕ) → suc k ≡ step → StayBelow p s k set
  pub before : (i : ℕ) → i < step → HasAnswer p q limit set i
  pub inner : SolveStop
  pub some : inner ≢ solves.Memory
  pub stops : Stops limit (program_of_set p q (step_set set step)) inner
  pub told : stop ≡ run_stop inner

-- the programs of all steps are solved; this step is the last that was impossible, so its program is that of the filter's set, and one of
-- the multipliers of its constraints passes 128 bits: the first
pub record StopsAtMultiplier (p : Problem) (s : Setting) (q : Program Frac) (limit step : ℕ) (stop : Stop) : Type 0 where
  pub set : ConstraintSet
  pub filter : IsFilterSet p s set
  pub answers : (i : ℕ) → i ≤ length p.constraints → HasAnswer p q limit set i
  pub last : IsLastImpossible (length p.constraints) set step
  pub solved : Solved
  pub is_solved : IsSolved limit (program_of_set p q set) solved
  pub row : ℕ
  pub passes : Passes
  pub first : passing_from 0 (all_multipliers status.Infeasible (kept_of set p.constraints) solved.answer.rows) ≡ Some (row, passes)
  pub told : stop ≡ stops.Wide (sites.Answer row passes)

-- what stops the filter: the first step that stops, or else the first multiplier that passes; want of memory is free
pub data StopsAt (p : Problem) (s : Setting) (q : Program Frac) (limit step : ℕ) (stop : Stop) : Type 0 where
  in_step : StopsInStep p s q limit step stop → StopsAt p s q limit step stop
  at_multiplier : StopsAtMultiplier p s q limit step stop → StopsAt p s q limit step stop

abbrev pub StopsFilter : Problem → Setting → Program Frac → ℕ → FilterStop → Type 0
StopsFilter p s q limit (filter.Step step stop) = StopsAt p s q limit step stop
StopsFilter p s q limit filter.Memory = ⊤
