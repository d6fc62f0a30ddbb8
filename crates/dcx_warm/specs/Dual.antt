-- The dual simplex, over whole numbers of any size: right sides below 0 are put right while no cost is positive.
use Rattle.std.specs.Prelude.{◌≡◌, ℕ, ◌+◌, ◌*◌, ◌<◌, ◌≤◌, length, pos, ◌<ℤ◌, unsigned_abs, ◌⊎◌, Option, Some, None}
use Rattle.dcx_tab.specs.Rows.{basic_at}
use Rattle.dcx_tab.specs.Table.{Table, entry_at, after_pivot}
use Rattle.dcx_simplex.specs.Run.{right_at}
use Rattle.dcx_simplex.specs.Basis.{IsFeasible}
use Rattle.dcx_simplex.specs.Whole.{objective_row}
use Rattle.dcx_warm.specs.Install.{IsAllowed}

-- row i has a right side below 0
pub record IsShort (t : Table) (i : ℕ) : Type 0 where
  pub row : i + 2 < length t.rows
  pub negative : right_at t i <ℤ pos 0

-- of the rows with a right side below 0, the one with the least basic column
pub record IsLeaving (t : Table) (r : ℕ) : Type 0 where
  pub short : IsShort t r
  pub least : (k : ℕ) → IsShort t k → basic_at t.basis r ≤ basic_at t.basis k

-- a column that isn't artificial and has a negative entry in row r may enter
pub record MayEnter (t : Table) (r c : ℕ) : Type 0 where
  pub column : c < t.plain
  pub negative : entry_at t r c <ℤ pos 0

abbrev pub magnitude_at : Table → ℕ → ℕ → ℕ
magnitude_at t i j = unsigned_abs (entry_at t i j)

-- the ratio of the magnitudes of the objective row's entry and row r's entry is less at column c than at column k,
-- or the same with a column that isn't above
abbrev pub ComesFirst : Table → ℕ → ℕ → ℕ → Type 0
ComesFirst t r c k =
    let o = objective_row t in
    (magnitude_at t o c * magnitude_at t r k < magnitude_at t o k * magnitude_at t r c)
    ⊎ ((magnitude_at t o c * magnitude_at t r k ≡ magnitude_at t o k * magnitude_at t r c) × (c ≤ k))

-- of the columns that may enter, the one of least ratio, and of these the least column
pub record IsEntering (t : Table) (r c : ℕ) : Type 0 where
  pub may : MayEnter t r c
  pub first : (k : ℕ) → MayEnter t r k → ComesFirst t r c k

-- from a tableau with some pivots done, the rule leads to tableau u with m done, where no right side is below 0
pub data Repairs (limit : ℕ) (u : Table) (m : ℕ) : Table → ℕ → Type 0 where
  Repaired : IsFeasible u → Repairs limit u m u m
  Turns : (t : Table) (n r c : ℕ) → IsLeaving t r → IsEntering t r c → IsAllowed limit t n r c → Repairs limit u m (after_pivot r c t) (n + 1) → Repairs limit u m t n

-- the best of the rows below n with a right side below 0
abbrev pub IsBestRow : Table → ℕ → Option ℕ → Type 0
IsBestRow t n None = (k : ℕ) → k < n → ¬ (IsShort t k)
IsBestRow t n (Some r) = IsShort t r × ((k : ℕ) → k < n → IsShort t k → basic_at t.basis r ≤ basic_at t.basis k)

-- the best of the columns below n that may enter
abbrev pub IsBestColumn : Table → ℕ → ℕ → Option ℕ → Type 0
IsBestColumn t r n None = (k : ℕ) → k < n → ¬ (MayEnter t r k)
IsBestColumn t r n (Some c) = (c < n) × MayEnter t r c × ((k : ℕ) → k < n → MayEnter t r k → ComesFirst t r c k)

-- the rule leads to no tableau without right sides below 0
abbrev pub NeverRepairs : ℕ → Table → ℕ → Type 0
NeverRepairs limit t n = (u : Table) (m : ℕ) → ¬ (Repairs limit u m t n)

-- what is reached from tableau v with k pivots done is what is reached from t with n done
pub record RepairsAlike (limit : ℕ) (t : Table) (n : ℕ) (v : Table) (k : ℕ) : Type 0 where
  pub onward : (u : Table) (m : ℕ) → Repairs limit u m v k → Repairs limit u m t n
  pub back : (u : Table) (m : ℕ) → Repairs limit u m t n → Repairs limit u m v k
