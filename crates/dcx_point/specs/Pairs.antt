-- Arrays under names: lists of pairs, read and written by name.
use Rattle.std.specs.Prelude.{ℕ, Bool, nat_eq, List, Option}
use Rattle.std.specs.List.{IsDistinct}
use Rattle.std.specs.Map.{keys_of, lookup}
use Rattle.std.specs.Cmp.Lexicographic.{pointwise}
use Rattle.dcx_atom.specs.declared.array.Array.{Array}
use Rattle.indexmap.specs.IndexMap.{insert_entry}

-- pairs of a name, which is a list of bytes, and an array
abbrev pub Pairs : Type 0
Pairs = List (List ℕ × Array)

-- whether two names have the same bytes
abbrev pub same_name : List ℕ → List ℕ → Bool
same_name a b = pointwise nat_eq a b

-- the names, in order
abbrev pub names_of : Pairs → List (List ℕ)
names_of pairs = keys_of pairs

-- the array of the first pair with this name; None where no pair has it
abbrev pub array_of : Pairs → List ℕ → Option Array
array_of pairs name = lookup (same_name name) pairs

-- the pairs with this array under the name: in the place of the one that stands there, or else at the end
abbrev pub with_array : Pairs → List ℕ → Array → Pairs
with_array pairs name array = insert_entry same_name pairs name array

-- no name stands twice
abbrev pub AreDistinct : Pairs → Type 0
AreDistinct pairs = IsDistinct same_name (names_of pairs)
