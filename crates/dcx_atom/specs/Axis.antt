-- Folding along a side: which entries become one, and the shape that is left.
use Rattle.std.specs.Prelude.{ℕ, ◌+◌, ◌*◌, Option, Some, None}
use Rattle.dcx_shape.specs.declared.shape.Sides.{Sides}
use Rattle.dcx_shape.specs.declared.shape.Sides.TheVariants.{Scalar, Vector, Matrix}
use Rattle.dcx_shape.specs.Sides.{entries_of}
use Rattle.dcx_atom.specs.declared.axis.Axis.{Axis}
use Rattle.dcx_atom.specs.declared.axis.Axis.TheVariants.{All, Zero, One}
use Rattle.dcx_atom.specs.declared.axis.Stride.{Stride}

-- the sides that are left; None where there is no such side
abbrev pub folded : Axis → Sides → Option Sides
folded All s = Some Scalar
folded Zero Scalar = None
folded Zero (Vector n) = Some Scalar
folded Zero (Matrix m n) = Some (Vector n)
folded One Scalar = None
folded One (Vector n) = None
folded One (Matrix m n) = Some (Vector m)

-- entry i of a stride
abbrev pub stride_entry : Stride → ℕ → ℕ
stride_entry s i = s.first + i * s.step

-- all entries of an array
abbrev pub whole_stride : Sides → Stride
whole_stride s = record { first = 0; step = 1; count = entries_of s }

-- the entries that become entry k: all, those of column k, or those of row k
abbrev pub folded_stride : Axis → Sides → ℕ → Stride
folded_stride All s k = whole_stride s
folded_stride Zero Scalar k = whole_stride Scalar
folded_stride Zero (Vector n) k = whole_stride (Vector n)
folded_stride Zero (Matrix m n) k = record { first = k; step = n; count = m }
folded_stride One Scalar k = whole_stride Scalar
folded_stride One (Vector n) k = whole_stride (Vector n)
folded_stride One (Matrix m n) k = record { first = k * n; step = 1; count = n }

-- how many entries become one
abbrev pub folded_count : Axis → Sides → ℕ
folded_count Zero (Matrix m n) = m
folded_count One (Matrix m n) = n
folded_count All s = entries_of s
folded_count Zero s = entries_of s
folded_count One s = entries_of s
