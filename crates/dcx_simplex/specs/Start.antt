-- The tableau from which a whole run begins.
use Rattle.std.specs.Prelude.{◌≡◌, ℕ, ◌+◌, ◌-◌, ◌^◌, ◌<◌, ◌≤◌, List, length, pos, negsuc}
use Rattle.dcx_math.specs.IntegerSums.{int_dot}
use Rattle.dcx_tab.specs.Rows.{entry, Row, Assignment, basic_at, Solves}
use Rattle.dcx_tab.specs.Table.{Table, IsOf}
use Rattle.dcx_tab.specs.declared.program.Program.{Program}
use Rattle.dcx_tab.specs.First.{first_tableau}
use Rattle.dcx_simplex.specs.Run.{Leads}
use Rattle.dcx_simplex.specs.Whole.{objective_row, phase_row, Starts, RunEnds}
use Rattle.dcx_simplex.specs.declared.run.LpEnd.{LpEnd}
use Rattle.dcx_simplex.specs.declared.run.LpEnd.TheVariants as lp
use Rattle.dcx_simplex.specs.Basis.{IsFeasible, HasSameColumns}

-- the row that says that w is the sum of the artificial columns, and it holds at all solutions
pub record IsSumRow (equations : List Row) (t : Table) (row : Row) : Type 0 where
  pub width : length row ≡ t.columns + 3
  pub zeros : (j : ℕ) → j < t.plain → entry row j ≡ pos 0
  pub ones : (j : ℕ) → t.plain ≤ j → j < t.columns → entry row j ≡ pos 1
  pub z : entry row t.columns ≡ pos 0
  pub w : entry row (t.columns + 1) ≡ negsuc 0
  pub right : entry row (t.columns + 2) ≡ pos 0
  pub holds : (x : Assignment) → Solves equations x → int_dot row x ≡ pos 0

-- the feasible tableau of a program, with z and w basic in the last two rows, and w the sum of the artificials
pub record IsStart (equations : List Row) (t : Table) : Type 0 where
  pub tableau : IsOf equations t
  pub feasible : IsFeasible t
  pub enough : 2 ≤ length t.rows
  pub basics : (i : ℕ) → i + 2 < length t.rows → basic_at t.basis i < t.columns
  pub plain_below : t.plain ≤ t.columns
  pub objective : basic_at t.basis (objective_row t) ≡ t.columns
  pub phase : basic_at t.basis (phase_row t) ≡ t.columns + 1
  pub sum : (row : Row) × IsSumRow equations t row

-- more pivots than any run makes
abbrev pub enough_pivots : Table → ℕ
enough_pivots t = 2 ^ (t.columns + 1) + (length t.rows - 2)

-- a run that ends at the limit has a small limit
abbrev pub EndsBelow : Type 0
EndsBelow = (equations : List Row) (limit : ℕ) (t u : Table) (n : ℕ) → IsStart equations t → RunEnds limit t u (lp.PivotLimit n) → limit < enough_pivots t

-- the pivots that a run has made at its end
abbrev pub pivots_of : LpEnd → ℕ
pivots_of (lp.Optimal n) = n
pivots_of (lp.Infeasible n) = n
pivots_of (lp.Unbounded n c) = n
pivots_of (lp.Wide n r c) = n
pivots_of (lp.PivotLimit n) = n

-- a run makes few pivots
abbrev pub MakesFewInAll : Type 0
MakesFewInAll = (equations : List Row) (limit : ℕ) (t u : Table) (e : LpEnd) → IsStart equations t → RunEnds limit t u e → pivots_of e < enough_pivots t

-- the end isn't the limit, or the limit is small
abbrev pub HasSmallLimit : Table → ℕ → LpEnd → Type 0
HasSmallLimit t limit (lp.Optimal n) = Unit {0}
HasSmallLimit t limit (lp.Infeasible n) = Unit {0}
HasSmallLimit t limit (lp.Unbounded n c) = Unit {0}
HasSmallLimit t limit (lp.Wide n r c) = Unit {0}
HasSmallLimit t limit (lp.PivotLimit n) = (equations : List Row) → IsStart equations t → limit < enough_pivots t

-- the first tableau of a program is one from which a run begins
abbrev pub ProgramsStart : Type 0
ProgramsStart = (p : Program) → IsStart (first_tableau p).rows (first_tableau p)

-- the run from t has no other end
abbrev pub IsOnlyEnd : Table → ℕ → Table → LpEnd → Type 0
IsOnlyEnd t limit u e = (equations : List Row) → IsStart equations t → (v : Table) (f : LpEnd) → RunEnds limit t v f → (v ≡ u) × (f ≡ e)

-- a run has one end
abbrev pub EndsOnce : Type 0
EndsOnce = (equations : List Row) (limit : ℕ) (t u v : Table) (e f : LpEnd) → IsStart equations t → RunEnds limit t u e → RunEnds limit t v f → (u ≡ v) × (e ≡ f)

-- at the limit as many pivots are done as it allows
abbrev pub StopsAtLimit : Type 0
StopsAtLimit = (limit : ℕ) (t u : Table) (n : ℕ) → RunEnds limit t u (lp.PivotLimit n) → n ≡ limit

-- no set of basic columns comes twice in phase 1 of the run from t, nor in its phase 2
pub record RepeatsNoBasis (t : Table) : Type 0 where
  pub first : (limit n m : ℕ) (u v : Table) → Leads (phase_row t) t.columns limit t 0 u n → Leads (phase_row t) t.columns limit u n v m → n < m → ¬ (HasSameColumns u v)
  pub second : (limit k n m : ℕ) (w u v : Table) → Starts limit t w k → Leads (objective_row w) w.plain limit w k u n → Leads (objective_row w) w.plain limit u n v m → n < m → ¬ (HasSameColumns u v)

-- no run repeats a basis in a phase
abbrev pub RunsNeverRepeat : Type 0
RunsNeverRepeat = (equations : List Row) (t : Table) → IsStart equations t → RepeatsNoBasis t
