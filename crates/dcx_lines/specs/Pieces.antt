-- The texts of what a line is made of: shapes and arrays.
use Rattle.std.specs.Prelude.{ℕ, List, ◌++◌, codes, decimal}
use Rattle.std.specs.List.{flat_map}
use Rattle.dcx_shape.specs.declared.shape.Shape.{Shape}
use Rattle.dcx_shape.specs.declared.shape.Sides.{Sides}
use Rattle.dcx_shape.specs.declared.shape.Sides.TheVariants.{Scalar, Vector, Matrix}
use Rattle.dcx_shape.specs.Shape.{sides_of}
use Rattle.dcx_frac.specs.declared.fraction.Frac.{Frac}
use Rattle.dcx_frac.specs.Text.{frac_text}
use Rattle.dcx_atom.specs.declared.array.Array.{Array}

-- (), (n) or (m,n)
unfoldable pub sides_text : Sides → List ℕ
sides_text Scalar = codes "()"
sides_text (Vector n) = codes "(" ++ decimal n ++ codes ")"
sides_text (Matrix m n) = codes "(" ++ decimal m ++ codes "," ++ decimal n ++ codes ")"

-- the sides of the shape
unfoldable pub shape_text : Shape → List ℕ
shape_text shape = sides_text (sides_of shape)

-- a blank and the number
unfoldable pub entry_text : Frac → List ℕ
entry_text entry = codes " " ++ frac_text entry

-- SHAPE = NUMBER NUMBER ..
unfoldable pub array_text : Array → List ℕ
array_text array = shape_text array.shape ++ codes " =" ++ flat_map entry_text array.entries
