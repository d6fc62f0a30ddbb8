-- Entries of parameters: their numbers, their names, and what a setting has for them.
use Rattle.std.specs.Prelude.{◌≡◌, ℕ, List, Option, Some, slice_get, option_and_then}
use Rattle.dcx_math.specs.Rational.{ℚ}
use Rattle.dcx_frac.specs.declared.fraction.Frac.{Frac}
use Rattle.dcx_atom.specs.declared.array.Array.{Array}
use Rattle.dcx_point.specs.Pairs.{Pairs, array_of}

-- a number for each entry of each parameter, by its position in order of declaration
abbrev pub Parameters : Type 0
Parameters = ℕ → ℕ → ℚ

-- the names of the parameters, in order of declaration; a name is a list of bytes
abbrev pub Names : Type 0
Names = List (List ℕ)

-- the parameter at this position has this name
abbrev pub IsNameOf : Names → ℕ → List ℕ → Type 0
IsNameOf names position name = slice_get names position ≡ Some name

-- an entry of an array
abbrev pub array_entry : ℕ → Array → Option Frac
array_entry entry array = slice_get array.entries entry

-- the entry that the setting has under the name
abbrev pub entry_of : Pairs → List ℕ → ℕ → Option Frac
entry_of setting name entry = option_and_then (array_entry entry) (array_of setting name)
