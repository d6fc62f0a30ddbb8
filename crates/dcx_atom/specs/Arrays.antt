-- Arrays as functions: entry j of argument i, in row-major order.
use Rattle.std.specs.Prelude.{ℕ, zero, suc, ◌+◌, ◌/◌, ◌%◌, nat_eq, Bool, true, false, ◌&&◌, List, [], ◌∷◌, ◌++◌, map, slice_index_or}
use Rattle.dcx_math.specs.Rational.{ℚ}
use Rattle.dcx_math.specs.Sums.{rat_at}
use Rattle.dcx_frac.specs.declared.fraction.Frac.{Frac}
use Rattle.dcx_frac.specs.Frac.{value}
use Rattle.dcx_shape.specs.declared.shape.Shape.{Shape}
use Rattle.dcx_shape.specs.declared.shape.Sides.{Sides}
use Rattle.dcx_shape.specs.declared.shape.Sides.TheVariants.{Scalar, Vector, Matrix}
use Rattle.dcx_shape.specs.Shape.{sides_of}
use Rattle.dcx_shape.specs.Sides.{cols_of, entries_of}
use Rattle.dcx_shape.specs.Places.{row_place}
use Rattle.dcx_atom.specs.declared.array.Array.{Array}

-- exact numbers of any size: entry j of argument i. What stands beyond the arguments and their sizes is never read
abbrev pub Entries : Type 0
Entries = ℕ → ℕ → ℚ

-- number j of a list, and 0 past its end
abbrev pub number_at : List Frac → ℕ → ℚ
number_at xs j = rat_at (map value xs) j

-- the numbers of these arrays, and 0 beyond them
abbrev pub numbers_of : List Array → Entries
numbers_of args i j = number_at (slice_index_or (map (λ x. x.entries) args) i []) j

-- the sides of each shape
abbrev pub sides_list : List Shape → List Sides
sides_list shapes = map sides_of shapes

-- the sides of each array
abbrev pub array_sides : List Array → List Sides
array_sides args = map (λ x. sides_of x.shape) args

-- the sides of argument i, where there are so many
abbrev pub sides_at : List Sides → ℕ → Sides
sides_at args i = slice_index_or args i Scalar

-- whether two arrays have the same sides
abbrev pub same_sides : Sides → Sides → Bool
same_sides Scalar Scalar = true
same_sides Scalar (Vector n) = false
same_sides Scalar (Matrix m n) = false
same_sides (Vector n) Scalar = false
same_sides (Vector n) (Vector l) = nat_eq n l
same_sides (Vector n) (Matrix l p) = false
same_sides (Matrix m n) Scalar = false
same_sides (Matrix m n) (Vector l) = false
same_sides (Matrix m n) (Matrix l p) = nat_eq m l && nat_eq n p

-- the entries of the arguments before argument i
abbrev pub entries_before : List Sides → ℕ → ℕ
entries_before args zero = 0
entries_before [] (suc i) = 0
entries_before (s ∷ ss) (suc i) = entries_of s + entries_before ss i

-- the entries of all arguments
abbrev pub all_entries : List Sides → ℕ
all_entries [] = 0
all_entries (s ∷ ss) = entries_of s + all_entries ss

-- f 0, f 1, .., f (n - 1)
abbrev pub list_below : {A : Type 0} → ℕ → (ℕ → A) → List A
list_below zero f = []
list_below (suc n) f = list_below n f ++ f n ∷ []

-- the lists f 0, f 1, .., f (n - 1), joined
abbrev pub joined_below : {A : Type 0} → ℕ → (ℕ → List A) → List A
joined_below zero f = []
joined_below (suc n) f = joined_below n f ++ f n

-- the entry in row i and column j of an argument with these sides
abbrev pub entry_at : Sides → (ℕ → ℚ) → ℕ → ℕ → ℚ
entry_at sides x i j = x (row_place sides i j)

-- the array of these sides with f i j in row i and column j, as a function of the place
abbrev pub by_rows : Sides → (ℕ → ℕ → ℚ) → ℕ → ℚ
by_rows sides f k = f (k / cols_of sides) (k % cols_of sides)
