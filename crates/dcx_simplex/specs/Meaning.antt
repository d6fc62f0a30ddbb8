-- What the ends of a run mean for the program.
use Rattle.std.specs.Prelude.{◌≡◌, ℕ, ◌+◌, ◌<◌, ◌≤◌, List, pos, ◌*ℤ◌, neg_ℤ, ◌<ℤ◌, ◌≤ℤ◌}
use Rattle.dcx_tab.specs.Rows.{Row, Assignment, entry, Solves}
use Rattle.dcx_tab.specs.Table.{Table, IsOf}
use Rattle.dcx_simplex.specs.Run.{right_at}
use Rattle.dcx_simplex.specs.Whole.{objective_row, InFirst, RunEnds}
use Rattle.dcx_simplex.specs.declared.phase.PhaseEnd.TheVariants as phase
use Rattle.dcx_simplex.specs.declared.run.LpEnd.{LpEnd}
use Rattle.dcx_simplex.specs.declared.run.LpEnd.TheVariants as lp
use Rattle.dcx_simplex.specs.Basis.{IsFeasible, lead_at}
use Rattle.dcx_simplex.specs.Start.{IsStart}

-- columns at least 0, artificials 0, and a positive common denominator, which the right side's place holds turned
pub record IsPoint (t : Table) (y : Assignment) : Type 0 where
  pub plain : (j : ℕ) → j < t.plain → pos 0 ≤ℤ entry y j
  pub artificial : (j : ℕ) → t.plain ≤ j → j < t.columns → entry y j ≡ pos 0
  pub denominator : entry y (t.columns + 2) <ℤ pos 0

-- phase 1 is never unbounded
abbrev pub FirstIsBounded : Type 0
FirstIsBounded = (equations : List Row) (limit : ℕ) (t u : Table) (n c : ℕ) → IsStart equations t → ¬ (InFirst limit t u n (phase.Unbounded c))

-- at the end `Optimal` no point of the program has a lower objective than the tableau
abbrev pub OptimalIsLeast : Type 0
OptimalIsLeast = (equations : List Row) (limit : ℕ) (t u : Table) (n : ℕ) → IsStart equations t → RunEnds limit t u (lp.Optimal n)
    → (y : Assignment) → Solves equations y → IsPoint t y → (right_at u (objective_row t) *ℤ neg_ℤ (entry y (t.columns + 2))) ≤ℤ (lead_at u (objective_row t) *ℤ entry y t.columns)

-- at the end `Infeasible` the program has no point
abbrev pub InfeasibleIsRight : Type 0
InfeasibleIsRight = (equations : List Row) (limit : ℕ) (t u : Table) (n : ℕ) → IsStart equations t → RunEnds limit t u (lp.Infeasible n) → (y : Assignment) → Solves equations y → ¬ (IsPoint t y)

-- at every end the tableau is that of its basis for the program, with right sides at least 0
abbrev pub EndsFeasible : Type 0
EndsFeasible = (equations : List Row) (limit : ℕ) (t u : Table) (e : LpEnd) → IsStart equations t → RunEnds limit t u e → IsOf equations u × IsFeasible u

-- at the end `Optimal` a point of the program has the tableau's objective
abbrev pub OptimalIsAttained : Type 0
OptimalIsAttained = (equations : List Row) (limit : ℕ) (t u : Table) (n : ℕ) → IsStart equations t → RunEnds limit t u (lp.Optimal n)
    → (y : Assignment) × Solves equations y × IsPoint t y × (right_at u (objective_row t) *ℤ neg_ℤ (entry y (t.columns + 2)) ≡ lead_at u (objective_row t) *ℤ entry y t.columns)

-- a direction from any point to points, along which the objective falls
pub record IsRay (t : Table) (y : Assignment) : Type 0 where
  pub plain : (j : ℕ) → j < t.plain → pos 0 ≤ℤ entry y j
  pub artificial : (j : ℕ) → t.plain ≤ j → j < t.columns → entry y j ≡ pos 0
  pub denominator : entry y (t.columns + 2) ≡ pos 0
  pub falls : entry y t.columns <ℤ pos 0

-- at the end `Unbounded` the program has a point, and a ray
abbrev pub UnboundedIsRight : Type 0
UnboundedIsRight = (equations : List Row) (limit : ℕ) (t u : Table) (n c : ℕ) → IsStart equations t → RunEnds limit t u (lp.Unbounded n c)
    → ((y : Assignment) × Solves equations y × IsPoint t y) × ((y : Assignment) × Solves equations y × IsRay t y)
