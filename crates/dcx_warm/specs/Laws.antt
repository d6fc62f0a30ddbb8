-- What holds of every warm run.
use Rattle.std.specs.Prelude.{◌≡◌, ℕ, List}
use Rattle.dcx_tab.specs.Rows.{Row}
use Rattle.dcx_tab.specs.declared.program.Program.{Program}
use Rattle.dcx_tab.specs.First.{first_tableau}
use Rattle.dcx_tab.specs.Table.{Table}
use Rattle.dcx_simplex.specs.Start.{IsStart}
use Rattle.dcx_warm.specs.Install.{IsColumnList}
use Rattle.dcx_warm.specs.Warm.{WarmEnds, IsOptimalAt}

-- a run has one end, and one tableau there
abbrev pub EndsOnce : Type 0
EndsOnce = (equations : List Row) (limit : ℕ) (columns : List ℕ) (t u v : Table) (n m : ℕ) → IsStart equations t → WarmEnds limit columns t u n → WarmEnds limit columns t v m → (u ≡ v) × (n ≡ m)

-- from the first tableau of a program the run leaves a tableau from which the optimal answer is read
abbrev pub EndsOptimal : Type 0
EndsOptimal = (p : Program) (limit : ℕ) (columns : List ℕ) (u : Table) (n : ℕ) → IsColumnList (first_tableau p).plain columns → WarmEnds limit columns (first_tableau p) u n → IsOptimalAt p u
