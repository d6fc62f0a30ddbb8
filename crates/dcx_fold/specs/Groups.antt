-- Groups of the entries of an argument: each becomes one entry of a value. All entries are one group, or each column of a
-- matrix is one, or each row.
use Rattle.std.specs.Prelude.{ℕ, ◌/◌, ◌%◌, nat_le, if◌then◌else◌, List, [], ◌∷◌, Option, None}
use Rattle.dcx_shape.specs.declared.shape.Sides.{Sides}
use Rattle.dcx_shape.specs.declared.shape.Sides.TheVariants.{Matrix}
use Rattle.dcx_shape.specs.Sides.{entries_of}
use Rattle.dcx_atom.specs.declared.axis.Axis.{Axis}
use Rattle.dcx_atom.specs.declared.axis.Axis.TheVariants.{All, Zero, One}
use Rattle.dcx_atom.specs.Axis.{folded, folded_stride, stride_entry}

-- how many groups there are
abbrev pub groups : Axis → Sides → ℕ
groups Zero (Matrix m n) = n
groups One (Matrix m n) = m
groups All s = 1
groups Zero s = 1
groups One s = 1

-- where member i of group k stands in the argument
abbrev pub member : Axis → Sides → ℕ → ℕ → ℕ
member axis s k i = stride_entry (folded_stride axis s k) i

-- the group of entry e
abbrev pub group_of : Axis → Sides → ℕ → ℕ
group_of Zero (Matrix m n) e = e % n
group_of One (Matrix m n) e = e / n
group_of All s e = 0
group_of Zero s e = 0
group_of One s e = 0

-- which member of its group entry e is
abbrev pub member_of : Axis → Sides → ℕ → ℕ
member_of Zero (Matrix m n) e = e / n
member_of One (Matrix m n) e = e % n
member_of All s e = e
member_of Zero s e = e
member_of One s e = e

-- the sides of the value; an argument without entries has no greatest one, and so no value
abbrev pub fold_sides : Axis → List Sides → Option Sides
fold_sides axis [] = None
fold_sides axis (s ∷ []) = if nat_le 1 (entries_of s) then folded axis s else None
fold_sides axis (s ∷ r ∷ rs) = None
