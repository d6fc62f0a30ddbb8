-- The entries that may be bounded: those of marked variables that have an unknown, in order of declaration and row-major order.
use Rattle.std.specs.Prelude.{ℕ, suc, List, [], ◌∷◌, ◌++◌, map, Option, Some, None}
use Rattle.dcx_shape.specs.Sides.{entries_of}
use Rattle.dcx_shape.specs.Places.{places_below}
use Rattle.dcx_call.specs.declared.attribute.Variable.{Variable}
use Rattle.dcx_call.specs.declared.attribute.Whole.{Whole}
use Rattle.dcx_call.specs.declared.attribute.Whole.TheVariants.{Not, Integer, Boolean}
use Rattle.dcx_unknowns.specs.Unknowns.{sides_in, first_unknown, unknown_from}
use Rattle.dcx_branch.specs.declared.place.Place.{Place}

-- the entries from entry j on of variable k, where these are their unknowns
abbrev pub places_of : ℕ → Whole → ℕ → List (Option ℕ) → List Place
places_of k mark j [] = []
places_of k mark j (None ∷ us) = places_of k mark (suc j) us
places_of k mark j (Some n ∷ us) = record { variable = k; entry = j; unknown = n; whole = mark } ∷ places_of k mark (suc j) us

-- the entry j of variable k, where it has an unknown
abbrev pub place_if : ℕ → Whole → ℕ → Option ℕ → List Place
place_if k mark j None = []
place_if k mark j (Some n) = record { variable = k; entry = j; unknown = n; whole = mark } ∷ []

-- those of variable k, whose unknowns begin with `first`
abbrev pub entry_places : ℕ → ℕ → Variable → List Place
entry_places k first v = places_of k v.whole 0 (map (unknown_from first v) (places_below (entries_of (sides_in v))))

-- those of a variable with this mark
abbrev pub marked_places : Whole → List Place → List Place
marked_places Not places = []
marked_places Integer places = places
marked_places Boolean places = places

abbrev pub variable_places : ℕ → ℕ → Variable → List Place
variable_places k first v = marked_places v.whole (entry_places k first v)

-- those of the variables `rest` of all these variables, the first of which has the number k
abbrev pub places_from : List Variable → ℕ → List Variable → List Place
places_from vs k [] = []
places_from vs k (v ∷ rest) = variable_places k (first_unknown vs k) v ++ places_from vs (suc k) rest

abbrev pub places : List Variable → List Place
places vs = places_from vs 0 vs
