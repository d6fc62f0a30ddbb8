-- A list of numbers with their columns.
use Rattle.std.specs.Prelude.{ℕ, List, get_or, ℤ, pos}
use Rattle.dcx_links.specs.declared.walk.Entry.{Entry}

-- the column and the number of the k-th entry
abbrev pub column_at : List Entry → ℕ → ℕ
column_at es k = (get_or es k (record { at = 0; value = pos 0 })).at

abbrev pub value_at : List Entry → ℕ → ℤ
value_at es k = (get_or es k (record { at = 0; value = pos 0 })).value
