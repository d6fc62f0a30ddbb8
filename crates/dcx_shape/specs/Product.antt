-- The shape of a matrix product.
use Rattle.std.specs.Prelude.{◌≡◌}
use Rattle.dcx_shape.specs.declared.shape.Sides.{Sides}
use Rattle.dcx_shape.specs.declared.shape.Sides.TheVariants.{Scalar, Vector, Matrix}

-- a @ b has the sides c: the inner sides are equal and go away, and the outer ones stay; a scalar has no product
abbrev pub IsProduct : Sides → Sides → Sides → Type 0
IsProduct (Vector n) (Vector l) c = (n ≡ l) × (c ≡ Scalar)
IsProduct (Matrix m n) (Vector l) c = (n ≡ l) × (c ≡ Vector m)
IsProduct (Vector n) (Matrix l p) c = (n ≡ l) × (c ≡ Vector p)
IsProduct (Matrix m n) (Matrix l p) c = (n ≡ l) × (c ≡ Matrix m p)
IsProduct Scalar b c = ⊥
IsProduct (Vector n) Scalar c = ⊥
IsProduct (Matrix m n) Scalar c = ⊥
