-- The entries that a row gets in a pivot: u times the row less v times the row of the pivot.
use Rattle.std.specs.Prelude.{◌≡◌, ℕ, ◌<◌, List, ℤ, pos, ◌-ℤ◌, ◌*ℤ◌, ◌⊎◌}
use Rattle.dcx_links.specs.declared.walk.Entry.{Entry}
use Rattle.dcx_links.specs.Entries.{column_at, value_at}
use Rattle.dcx_tab.specs.Rows.{Row, entry}
use Rattle.dcx_tab.specs.Pivot.{turned, cleared, IsFormed, IsFormedAt}

abbrev pub mixed_at : ℤ → Row → ℤ → Row → ℕ → ℤ
mixed_at u row v pivot j = u *ℤ entry row j -ℤ v *ℤ entry pivot j

-- these are the factors by which a pivot at column c clears the row, where the row of the pivot isn't turned
pub record Clears (c : ℕ) (pivot row : Row) (u v : ℤ) : Type 0 where
  pub mixed : (j : ℕ) → mixed_at u row v pivot j ≡ entry (cleared c (turned c pivot) row) j
  pub formed : (j : ℕ) → IsFormed u (entry row j) v (entry pivot j) → IsFormedAt c (turned c pivot) row j
  pub only : (j : ℕ) → IsFormedAt c (turned c pivot) row j → IsFormed u (entry row j) v (entry pivot j)

-- the first entries are the numbers of the row in its first n columns: where there is none, the row has 0
pub record AreListed (row : Row) (n : ℕ) (es : List Entry) (count : ℕ) : Type 0 where
  pub within : (k : ℕ) → k < count → column_at es k < n
  pub rising : (j k : ℕ) → j < k → k < count → column_at es j < column_at es k
  pub value : (k : ℕ) → k < count → value_at es k ≡ entry row (column_at es k)
  pub zeros : (j : ℕ) → j < n → ((k : ℕ) × (k < count) × (column_at es k ≡ j)) ⊎ (entry row j ≡ pos 0)
