-- Which sides an array may have, and those of what several arrays make together.
use Rattle.std.specs.Prelude.{ℕ, zero, suc, ◌<◌, ◌≤◌, min, max, nat_eq, ◌||◌, if◌then◌else◌, List, [], ◌∷◌, Option, Some, None, Result}
use Rattle.std.specs.Option.{ok_or}
use Rattle.std.proofs.Common.{lit<, lit≤}
use native.Mathlib.Decide.{dec_lt, dec_le}
use Rattle.dcx_shape.specs.declared.shape.Sides.{Sides}
use Rattle.dcx_shape.specs.declared.shape.Sides.TheVariants.{Scalar, Vector, Matrix}
use Rattle.dcx_shape.specs.declared.shape.Shape.{Shape}
use Rattle.dcx_shape.specs.Sides.{rank_of, rows_of, cols_of, entries_of, HasFewEntries}
use Rattle.dcx_array.specs.declared.fault.ArrayFault.{ArrayFault}
use Rattle.dcx_array.specs.declared.fault.ArrayFault.TheVariants.{Clash, TooMany, Empty}
use Rattle.dcx_array.specs.Answers.{◌>>=◌}

-- ---- the sides of an array
-- whether an array may have so many entries
unfoldable pub dec_few : (s : Sides) → Dec (HasFewEntries s)
dec_few s = by (dec_lt 0 (entries_of s)) (dec_le (entries_of s) 20000)
  where
    by : Dec (0 < entries_of s) → Dec (entries_of s ≤ 20000) → Dec (HasFewEntries s)
    by (yes some) (yes most) = yes (record { some = some; most = most })
    by (yes some) (no f) = no (λ h. f h.most)
    by (no f) most = no (λ h. f h.some)

-- the shape with these sides; None where there are not 1 to 20,000 entries
unfoldable pub shape_with : Sides → Option Shape
shape_with s = by (dec_few s)
  where
    by : Dec (HasFewEntries s) → Option Shape
    by (yes few) = Some (record { sides = s; few = few })
    by (no f) = None

-- a count that is too great for its type is told as the greatest
abbrev pub told : ℕ → ℕ
told n = min n 4294967295

-- why no array has so many entries
abbrev pub size_fault : ℕ → ArrayFault
size_fault zero = Empty
size_fault (suc n) = TooMany (told (suc n))

-- the shape with these sides
abbrev pub allowed_shape : Sides → Result Shape ArrayFault
allowed_shape s = ok_or (shape_with s) (size_fault (entries_of s))

-- the shape of a number
abbrev pub scalar_shape : Shape
scalar_shape = record { sides = Scalar; few = record { some = lit< tt; most = lit≤ tt } }

-- ---- broadcasting, sides aligned from the right
-- two sides are equal, or one of them is 1 and stands for each place of the other
abbrev pub joined_side : ℕ → ℕ → Option ℕ
joined_side m n = if nat_eq m n || (nat_eq m 1 || nat_eq n 1) then Some (max m n) else None

-- so many of these sides, from the right
abbrev pub with_rank : ℕ → ℕ → ℕ → Sides
with_rank zero rows columns = Scalar
with_rank (suc zero) rows columns = Vector columns
with_rank (suc (suc k)) rows columns = Matrix rows columns

abbrev pub with_sides : ℕ → Option ℕ → Option ℕ → Option Sides
with_sides rank (Some rows) (Some columns) = Some (with_rank rank rows columns)
with_sides rank (Some rows) None = None
with_sides rank None columns = None

-- the sides that two arrays share, of any size
abbrev pub broadcast_of : Sides → Sides → Option Sides
broadcast_of a b = with_sides (max (rank_of a) (rank_of b)) (joined_side (rows_of a) (rows_of b)) (joined_side (cols_of a) (cols_of b))

-- the sides that several arrays share
abbrev pub common_with : Option Sides → List Sides → Option Sides
common_with None bs = None
common_with (Some a) [] = Some a
common_with (Some a) (b ∷ bs) = common_with (broadcast_of a b) bs

abbrev pub common_of : List Sides → Option Sides
common_of [] = None
common_of (a ∷ bs) = common_with (Some a) bs

-- the shape that two plain arrays share
abbrev pub shared_shape : Sides → Sides → Result Shape ArrayFault
shared_shape a b = ok_or (broadcast_of a b) Clash >>= allowed_shape

-- ---- matrix products
-- the sides of a product, of any size: the inner sides are equal and go away, and the outer ones stay; a scalar has none
abbrev pub multiplied_sides : Sides → Sides → Option Sides
multiplied_sides (Vector n) (Vector l) = if nat_eq n l then Some Scalar else None
multiplied_sides (Vector n) (Matrix l p) = if nat_eq n l then Some (Vector p) else None
multiplied_sides (Matrix m n) (Vector l) = if nat_eq n l then Some (Vector m) else None
multiplied_sides (Matrix m n) (Matrix l p) = if nat_eq n l then Some (Matrix m p) else None
multiplied_sides a b = None

-- the shape of the product of two plain arrays
abbrev pub multiplied_shape : Sides → Sides → Result Shape ArrayFault
multiplied_shape a b = ok_or (multiplied_sides a b) Clash >>= allowed_shape
