-- What holds of every run of a phase by Bland's rule.
use Rattle.std.specs.Prelude.{◌≡◌, ◌≢◌, ℕ, ◌+◌, ◌^◌, ◌<◌, List, pos, ◌↔◌}
use Rattle.dcx_tab.specs.Rows.{Row}
use Rattle.dcx_tab.specs.Table.{Table, after_pivot}
use Rattle.dcx_simplex.specs.Run.{Leads, IsNext, right_at}
use Rattle.dcx_simplex.specs.Basis.{IsReady, HasSameColumns, HasSameValue, IsNotAbove}

-- right sides stay at least 0, and the tableau stays that of its basis for the program
abbrev pub StaysReady : Type 0
StaysReady = (equations : List Row) (cost bound limit : ℕ) (t : Table) (n : ℕ) (u : Table) (m : ℕ) → IsReady equations cost bound t → Leads cost bound limit t n u m → IsReady equations cost bound u

-- the objective's value never rises
abbrev pub NeverRises : Type 0
NeverRises = (equations : List Row) (cost bound limit : ℕ) (t : Table) (n : ℕ) (u : Table) (m : ℕ) → IsReady equations cost bound t → Leads cost bound limit t n u m → IsNotAbove cost u t

-- a pivot leaves the objective's value as it is just where the leaving row's right side is 0
abbrev pub StaysJustAtZero : Type 0
StaysJustAtZero = (equations : List Row) (cost bound : ℕ) (t : Table) (r c : ℕ) → IsReady equations cost bound t → IsNext cost bound t r c
    → HasSameValue cost (after_pivot r c t) t ↔ (right_at t r ≡ pos 0)

-- no set of basic columns comes twice
abbrev pub NeverRepeats : Type 0
NeverRepeats = (equations : List Row) (cost bound limit : ℕ) (t : Table) (n : ℕ) (u : Table) (m : ℕ) → IsReady equations cost bound t → Leads cost bound limit t n u m → n < m → ¬ (HasSameColumns t u)

-- nor a basis as a list
abbrev pub NeverRepeatsList : Type 0
NeverRepeatsList = (equations : List Row) (cost bound limit : ℕ) (t : Table) (n : ℕ) (u : Table) (m : ℕ) → IsReady equations cost bound t → Leads cost bound limit t n u m → n < m → t.basis ≢ u.basis

-- a phase makes fewer pivots than there are sets of columns
abbrev pub MakesFewPivots : Type 0
MakesFewPivots = (equations : List Row) (cost bound limit : ℕ) (t : Table) (n : ℕ) (u : Table) (m : ℕ) → IsReady equations cost bound t → Leads cost bound limit t n u m → m < n + 2 ^ t.columns
