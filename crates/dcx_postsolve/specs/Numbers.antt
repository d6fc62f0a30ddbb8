-- The numbers of unknowns from those of their columns, which stand in order: two of a free unknown, and one of any other.
use Rattle.std.specs.Prelude.{◌≡◌, ⊤, ◌⊎◌, ℕ, suc, ◌+◌, ◌≤◌, List, [], ◌∷◌, length, sum_by, pos}
use Rattle.dcx_math.specs.Rational.{ℚ, whole, ◌-ℚ◌, neg_ℚ}
use Rattle.dcx_math.specs.Sums.{rat_at}
use Rattle.dcx_linear.specs.declared.row.UnknownKind.{UnknownKind}
use Rattle.dcx_linear.specs.declared.row.UnknownKind.TheVariants.{Free, Nonneg, Nonpos}
use Rattle.dcx_linear.specs.Size.{columns_for}

-- the number of an unknown whose columns begin with column j: a free one is the difference of the two
abbrev pub unknown_number : List ℚ → ℕ → UnknownKind → ℚ
unknown_number zs j Free = rat_at zs j -ℚ rat_at zs (suc j)
unknown_number zs j Nonneg = rat_at zs j
unknown_number zs j Nonpos = neg_ℚ (rat_at zs j)

-- the numbers of unknowns of these kinds, whose columns begin with column j
abbrev pub numbers_from : List ℚ → ℕ → List UnknownKind → List ℚ
numbers_from zs j [] = []
numbers_from zs j (kind ∷ kinds) = unknown_number zs j kind ∷ numbers_from zs (j + columns_for kind) kinds

-- the numbers of the unknowns of these kinds, from those of the columns
abbrev pub unknown_numbers : List UnknownKind → List ℚ → List ℚ
unknown_numbers kinds zs = numbers_from zs 0 kinds

-- there are so many columns
abbrev pub HasColumns : List UnknownKind → List ℚ → Type 0
HasColumns kinds zs = sum_by columns_for kinds ≤ length zs

-- one of the two columns of a free unknown is 0 at least, where its columns begin with column j
abbrev pub IsOneSidedAt : List ℚ → ℕ → UnknownKind → Type 0
IsOneSidedAt zs j Free = (rat_at zs j ≡ whole (pos 0)) ⊎ (rat_at zs (suc j) ≡ whole (pos 0))
IsOneSidedAt zs j Nonneg = ⊤
IsOneSidedAt zs j Nonpos = ⊤

-- the same of each unknown of these kinds, whose columns begin with column j
abbrev pub AreOneSidedFrom : List ℚ → ℕ → List UnknownKind → Type 0
AreOneSidedFrom zs j [] = ⊤
AreOneSidedFrom zs j (kind ∷ kinds) = IsOneSidedAt zs j kind × AreOneSidedFrom zs (j + columns_for kind) kinds

-- of each free unknown of these kinds one of the two columns is 0 at least
abbrev pub AreOneSided : List UnknownKind → List ℚ → Type 0
AreOneSided kinds zs = AreOneSidedFrom zs 0 kinds
