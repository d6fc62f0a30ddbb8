-- Making listed columns basic, over whole numbers of any size.
use Rattle.std.specs.Prelude.{◌≡◌, ◌≢◌, ℕ, ◌+◌, ◌<◌, List, length, get_or, pos}
use Rattle.dcx_tab.specs.Rows.{basic_at, IsTableau}
use Rattle.dcx_tab.specs.Pivot.{AllFormed}
use Rattle.dcx_tab.specs.Table.{Table, entry_at, after_pivot}
use Rattle.dcx_simplex.specs.Basis.{IsBasic}

-- the table is the tableau of its basis, for some program
abbrev pub IsSound : Table → Type 0
IsSound t = IsTableau (t.columns + 3) t.basis t.rows

-- the column stands in the list
abbrev pub IsListed : List ℕ → ℕ → Type 0
IsListed columns c = (k : ℕ) × (k < length columns) × (get_or columns k 0 ≡ c)

-- no column stands twice in the list
abbrev pub AreApart : List ℕ → Type 0
AreApart columns = (i k : ℕ) → i < length columns → k < length columns → get_or columns i 0 ≡ get_or columns k 0 → i ≡ k

-- different columns that aren't artificial, where the first `plain` columns are those
pub record IsColumnList (plain : ℕ) (columns : List ℕ) : Type 0 where
  pub below : (c : ℕ) → IsListed columns c → c < plain
  pub apart : AreApart columns

-- of the listed columns that aren't basic, the least
pub record IsTaken (columns : List ℕ) (t : Table) (c : ℕ) : Type 0 where
  pub listed : IsListed columns c
  pub not_basic : ¬ (IsBasic t c)
  pub least : (k : ℕ) → k < c → IsListed columns k → IsBasic t k

-- row i may give up its basic column, which isn't listed, for column c
pub record MayGive (columns : List ℕ) (t : Table) (c i : ℕ) : Type 0 where
  pub unlisted : ¬ (IsListed columns (basic_at t.basis i))
  pub some : entry_at t i c ≢ pos 0

-- the first such row
pub record IsGiving (columns : List ℕ) (t : Table) (c r : ℕ) : Type 0 where
  pub row : r + 2 < length t.rows
  pub may : MayGive columns t c r
  pub first : (k : ℕ) → k < r → ¬ (MayGive columns t c k)

-- each listed column is basic
abbrev pub AllBasic : List ℕ → Table → Type 0
AllBasic columns t = (c : ℕ) → IsListed columns c → IsBasic t c

-- a pivot may be done after n others: the limit allows one more, and it isn't wide
pub record IsAllowed (limit : ℕ) (t : Table) (n r c : ℕ) : Type 0 where
  pub below : n < limit
  pub formed : AllFormed r c t.rows

-- from a tableau with some pivots done, all listed columns are made basic, at tableau u with m pivots done
pub data Installs (columns : List ℕ) (limit : ℕ) (u : Table) (m : ℕ) : Table → ℕ → Type 0 where
  Installed : AllBasic columns u → Installs columns limit u m u m
  Takes : (t : Table) (n r c : ℕ) → IsTaken columns t c → IsGiving columns t c r → IsAllowed limit t n r c → Installs columns limit u m (after_pivot r c t) (n + 1) → Installs columns limit u m t n

-- the listed columns can't all be made basic
abbrev pub NeverInstalls : List ℕ → ℕ → Table → ℕ → Type 0
NeverInstalls columns limit t n = (u : Table) (m : ℕ) → ¬ (Installs columns limit u m t n)

-- what is reached from tableau v with k pivots done is what is reached from t with n done
pub record InstallsAlike (columns : List ℕ) (limit : ℕ) (t : Table) (n : ℕ) (v : Table) (k : ℕ) : Type 0 where
  pub onward : (u : Table) (m : ℕ) → Installs columns limit u m v k → Installs columns limit u m t n
  pub back : (u : Table) (m : ℕ) → Installs columns limit u m t n → Installs columns limit u m v k
