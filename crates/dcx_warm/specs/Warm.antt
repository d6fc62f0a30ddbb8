-- The whole warm run, and the tableaus that it leaves where it ends optimal.
use Rattle.std.specs.Prelude.{◌≡◌, ℕ, ◌+◌, ◌<◌, List, length}
use Rattle.dcx_tab.specs.Rows.{basic_at}
use Rattle.dcx_tab.specs.declared.program.Program.{Program}
use Rattle.dcx_tab.specs.First.{first_tableau}
use Rattle.dcx_tab.specs.Table.{Table, IsOf}
use Rattle.dcx_simplex.specs.Run.{NoneEnters}
use Rattle.dcx_simplex.specs.Basis.{IsFeasible}
use Rattle.dcx_simplex.specs.Whole.{objective_row, phase_row}
use Rattle.dcx_warm.specs.Install.{Installs}
use Rattle.dcx_warm.specs.Dual.{Repairs}

-- from tableau t the run ends optimal at tableau u with n pivots done: there is one listed column for each row, the listed
-- columns are made basic, no cost is positive then, and right sides below 0 are put right
pub record WarmEnds (limit : ℕ) (columns : List ℕ) (t u : Table) (n : ℕ) : Type 0 where
  pub count : length columns + 2 ≡ length t.rows
  pub middle : Table
  pub pivots : ℕ
  pub installs : Installs columns limit middle pivots t 0
  pub costs : NoneEnters (objective_row middle) middle
  pub repairs : Repairs limit u n middle pivots

-- from tableau t the run doesn't end optimal
abbrev pub NeverEnds : ℕ → List ℕ → Table → Type 0
NeverEnds limit columns t = (u : Table) (n : ℕ) → ¬ (WarmEnds limit columns t u n)

-- the tableau is that of its basis for the program, no artificial is basic, no right side is below 0, and no cost is positive
pub record IsOptimalAt (p : Program) (t : Table) : Type 0 where
  pub tableau : IsOf (first_tableau p).rows t
  pub rows : length t.rows ≡ length (first_tableau p).rows
  pub columns : t.columns ≡ (first_tableau p).columns
  pub plain : t.plain ≡ (first_tableau p).plain
  pub objective : basic_at t.basis (objective_row t) ≡ t.columns
  pub phase : basic_at t.basis (phase_row t) ≡ t.columns + 1
  pub basics : (i : ℕ) → i + 2 < length t.rows → basic_at t.basis i < t.plain
  pub feasible : IsFeasible t
  pub costs : NoneEnters (objective_row t) t

-- the tableau is at the first basis of a program
abbrev pub IsFirst : Table → Type 0
IsFirst t = (p : Program) × (t ≡ first_tableau p)
