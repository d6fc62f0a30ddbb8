-- Products and quotients: the shape, and the pairs of entries of which each entry is made.
use Rattle.std.specs.Prelude.{ℕ, ◌+◌, ◌*◌, ◌/◌, ◌%◌, nat_eq, if◌then◌else◌, List, [], ◌∷◌, Option, Some, None}
use Rattle.dcx_shape.specs.declared.shape.Sides.{Sides}
use Rattle.dcx_shape.specs.declared.shape.Sides.TheVariants.{Scalar, Vector, Matrix}
use Rattle.dcx_shape.specs.Sides.{cols_of}
use Rattle.dcx_shape.specs.Places.{row_place}
use Rattle.dcx_atom.specs.Arrays.{list_below, same_sides}
use Rattle.dcx_affine.specs.declared.pairing.Pairing.{Pairing}
use Rattle.dcx_affine.specs.declared.pairing.Pairing.TheVariants.{Times, MatTimes, Over}
use Rattle.dcx_affine.specs.declared.pairing.Pair.{Pair}
use Rattle.dcx_affine.specs.Places.{limited}

-- the sides of a matrix product: the inner sides are equal and go away, and the outer ones stay; a scalar has no product
abbrev pub product_sides : Sides → Sides → Option Sides
product_sides Scalar b = None
product_sides (Vector n) Scalar = None
product_sides (Vector n) (Vector l) = if nat_eq n l then Some Scalar else None
product_sides (Vector n) (Matrix l p) = if nat_eq n l then limited (Vector p) else None
product_sides (Matrix m n) Scalar = None
product_sides (Matrix m n) (Vector l) = if nat_eq n l then limited (Vector m) else None
product_sides (Matrix m n) (Matrix l p) = if nat_eq n l then limited (Matrix m p) else None

-- the sides of the result; None where there is none
abbrev pub paired_sides : Pairing → Sides → Sides → Option Sides
paired_sides Times a b = if same_sides a b then Some a else None
paired_sides MatTimes a b = product_sides a b
paired_sides Over a b = if same_sides a b then Some a else None

-- the row of a, told by the sides of b, that meets a column of b in entry k of the product; a vector b is one column
abbrev pub met_row : Sides → ℕ → ℕ
met_row Scalar k = 0
met_row (Vector l) k = k
met_row (Matrix l p) k = k / p

-- that column of b
abbrev pub met_column : Sides → ℕ → ℕ
met_column Scalar k = 0
met_column (Vector l) k = 0
met_column (Matrix l p) k = k % p

-- entry t of a column of b
abbrev pub in_column : Sides → ℕ → ℕ → ℕ
in_column Scalar j t = 0
in_column (Vector l) j t = t
in_column (Matrix l p) j t = t * p + j

-- entry t of both
abbrev pub product_pair : Sides → Sides → ℕ → ℕ → Pair
product_pair a b k t = record { left = row_place a (met_row b k) t; right = in_column b (met_column b k) t }

-- the pairs whose products are summed, or the pair that is divided, for entry k
abbrev pub pairs_at : Pairing → Sides → Sides → ℕ → List Pair
pairs_at Times a b k = record { left = k; right = k } ∷ []
pairs_at MatTimes a b k = list_below (cols_of a) (product_pair a b k)
pairs_at Over a b k = record { left = k; right = k } ∷ []
