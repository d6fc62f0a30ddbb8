-- What holds of every run: each phase begins where one may begin, no basis comes twice in it, and its pivots are few.
use Rattle.std.specs.Prelude.{ℕ, ◌+◌, ◌^◌, ◌<◌, List, length}
use Rattle.dcx_tab.specs.Rows.{Row}
use Rattle.dcx_tab.specs.Table.{Table}
use Rattle.dcx_tab.specs.declared.program.Program.{Program}
use Rattle.dcx_tab.specs.First.{first_tableau}
use Rattle.dcx_simplex.specs.Run.{Leads}
use Rattle.dcx_simplex.specs.Whole.{objective_row, phase_row, Starts, RunEnds}
use Rattle.dcx_simplex.specs.declared.run.LpEnd.{LpEnd}
use Rattle.dcx_simplex.specs.declared.run.LpEnd.TheVariants as lp
use Rattle.dcx_simplex.specs.Basis.{IsReady}
use Rattle.dcx_simplex.specs.Start.{IsStart, RepeatsNoBasis, pivots_of}

-- phase 1 may begin at t, and phase 2 wherever the run from t begins it
pub record HasReadyPhases (equations : List Row) (t : Table) : Type 0 where
  pub first : IsReady equations (phase_row t) t.columns t
  pub second : (limit n : ℕ) (u : Table) → Starts limit t u n → IsReady equations (objective_row u) u.plain u

-- so it is at every start: what holds of a phase that may begin holds of the phases of a run
abbrev pub PhasesAreReady : Type 0
PhasesAreReady = (equations : List Row) (t : Table) → IsStart equations t → HasReadyPhases equations t

-- each phase of the run from t has fewer pivots than there are sets of columns
pub record HasShortPhases (t : Table) : Type 0 where
  pub first : (limit n : ℕ) (u : Table) → Leads (phase_row t) t.columns limit t 0 u n → n < 2 ^ t.columns
  pub second : (limit k n : ℕ) (w u : Table) → Starts limit t w k → Leads (objective_row w) w.plain limit w k u n → n < k + 2 ^ t.columns

-- more pivots than any run on the program makes, columns counted with the artificials
abbrev pub most_pivots : Program → ℕ
most_pivots p = 2 ^ (length p.columns + 1) + length p.rows

-- Under any limit the run on the program repeats no basis within a phase and makes fewer pivots than that, and a limit that
-- ends it is smaller.
pub record RunsShort (p : Program) : Type 0 where
  pub apart : RepeatsNoBasis (first_tableau p)
  pub phases : HasShortPhases (first_tableau p)
  pub pivots : (limit : ℕ) (u : Table) (e : LpEnd) → RunEnds limit (first_tableau p) u e → pivots_of e < most_pivots p
  pub limits : (limit n : ℕ) (u : Table) → RunEnds limit (first_tableau p) u (lp.PivotLimit n) → limit < most_pivots p

-- the run on any program is short
abbrev pub ProgramsRunShort : Type 0
ProgramsRunShort = (p : Program) → RunsShort p
