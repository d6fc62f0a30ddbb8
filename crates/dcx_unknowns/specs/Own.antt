-- Which entries of a variable have an unknown of their own, and whose unknown stands for an entry.
use Rattle.std.specs.Prelude.{ℕ, ◌/◌, ◌%◌, Bool, true, nat_le, nat_eq, if◌then◌else◌, List, length, filter, count_by, Option, Some, None, slice_index_or}
use Rattle.dcx_shape.specs.declared.shape.Sides.{Sides}
use Rattle.dcx_shape.specs.Sides.{cols_of, entries_of}
use Rattle.dcx_shape.specs.Places.{row_place, places_below}
use Rattle.dcx_call.specs.declared.attribute.Attribute.{Attribute}
use Rattle.dcx_call.specs.declared.attribute.Attribute.TheVariants.{Free, Nonneg, Nonpos, Symmetric, Diag}

-- the row and the column of entry k
abbrev pub row_in : Sides → ℕ → ℕ
row_in sides k = k / cols_of sides

abbrev pub column_in : Sides → ℕ → ℕ
column_in sides k = k % cols_of sides

-- entry k has an unknown of its own: of a symmetric variable each whose row is at most its column, of a diagonal one each
-- on the diagonal, of any other each
abbrev pub is_own : Attribute → Sides → ℕ → Bool
is_own Free sides k = true
is_own Nonneg sides k = true
is_own Nonpos sides k = true
is_own Symmetric sides k = nat_le (row_in sides k) (column_in sides k)
is_own Diag sides k = nat_eq (row_in sides k) (column_in sides k)

-- those entries, in row-major order
abbrev pub own_entries : Attribute → Sides → List ℕ
own_entries attribute sides = filter (is_own attribute sides) (places_below (entries_of sides))

abbrev pub own_count : Attribute → Sides → ℕ
own_count attribute sides = length (own_entries attribute sides)

-- the place of the mirror of entry k
abbrev pub mirror_of : Sides → ℕ → ℕ
mirror_of sides k = row_place sides (column_in sides k) (row_in sides k)

-- the entry whose unknown stands for entry k: below the diagonal of a symmetric variable its mirror; off the diagonal of a
-- diagonal one none, since it is 0 there; and else entry k itself
abbrev pub source_of : Attribute → Sides → ℕ → Option ℕ
source_of Free sides k = Some k
source_of Nonneg sides k = Some k
source_of Nonpos sides k = Some k
source_of Symmetric sides k = Some (if nat_le (row_in sides k) (column_in sides k) then k else mirror_of sides k)
source_of Diag sides k = if nat_eq (row_in sides k) (column_in sides k) then Some k else None

-- how many entries before entry k have an unknown of their own
abbrev pub own_before : Attribute → Sides → ℕ → ℕ
own_before attribute sides k = count_by (is_own attribute sides) (places_below k)

-- what a list has for an entry, if there is one
abbrev pub listed_for : List (Option ℕ) → Option ℕ → Option ℕ
listed_for unknowns None = None
listed_for unknowns (Some k) = slice_index_or unknowns k None
