-- What attributes tell of a value: its sign, and the arrays that are within them.
use Rattle.std.specs.Prelude.{◌≡◌, ◌≢◌, ℕ, ◌<◌, true, false, List, All, pos}
use Rattle.dcx_math.specs.Rational.{ℚ, whole, ◌≤ℚ◌}
use Rattle.dcx_shape.specs.declared.shape.Sides.{Sides}
use Rattle.dcx_shape.specs.Shape.{sides_of}
use Rattle.dcx_shape.specs.Sides.{rows_of, cols_of, entries_of}
use Rattle.dcx_shape.specs.Places.{HasEntry}
use Rattle.dcx_atom.specs.declared.flags.Sign.{Sign}
use Rattle.dcx_atom.specs.Arrays.{entry_at}
use Rattle.dcx_atom.specs.Signs.{unknown_sign}
use Rattle.dcx_call.specs.declared.attribute.Attribute.{Attribute}
use Rattle.dcx_call.specs.declared.attribute.Attribute.TheVariants.{Free, Nonneg, Nonpos, Symmetric, Diag}
use Rattle.dcx_call.specs.declared.attribute.Whole.{Whole}
use Rattle.dcx_call.specs.declared.attribute.Whole.TheVariants.{Not, Integer, Boolean}
use Rattle.dcx_call.specs.declared.attribute.Variable.{Variable}

-- the sign that an attribute tells
abbrev pub attribute_sign : Attribute → Sign
attribute_sign Free = unknown_sign
attribute_sign Nonneg = record { nonneg = true; nonpos = false }
attribute_sign Nonpos = record { nonneg = false; nonpos = true }
attribute_sign Symmetric = unknown_sign
attribute_sign Diag = unknown_sign

-- what is demanded of a variable: what is to be 0 or 1 counts as nonneg, and that entries are whole isn't demanded
abbrev pub counted : Whole → Attribute → Attribute
counted Not attribute = attribute
counted Integer attribute = attribute
counted Boolean attribute = Nonneg

-- an array is within an attribute
abbrev pub IsWithin : Attribute → Sides → (ℕ → ℚ) → Type 0
IsWithin Free sides x = Unit {0}
IsWithin Nonneg sides x = (j : ℕ) → j < entries_of sides → whole (pos 0) ≤ℚ x j
IsWithin Nonpos sides x = (j : ℕ) → j < entries_of sides → x j ≤ℚ whole (pos 0)
IsWithin Symmetric sides x = (i j : ℕ) → HasEntry sides i j → entry_at sides x i j ≡ entry_at sides x j i
IsWithin Diag sides x = (i j : ℕ) → HasEntry sides i j → i ≢ j → entry_at sides x i j ≡ whole (pos 0)

-- an array is in the domain of a variable
abbrev pub IsInDomain : Variable → (ℕ → ℚ) → Type 0
IsInDomain v x = IsWithin (counted v.whole v.attribute) (sides_of v.shape) x

-- ---- symmetric and diagonal variables are square matrices
abbrev pub IsSquareFor : Attribute → Sides → Type 0
IsSquareFor Free sides = Unit {0}
IsSquareFor Nonneg sides = Unit {0}
IsSquareFor Nonpos sides = Unit {0}
IsSquareFor Symmetric sides = rows_of sides ≡ cols_of sides
IsSquareFor Diag sides = rows_of sides ≡ cols_of sides

abbrev pub IsSquare : Variable → Type 0
IsSquare v = IsSquareFor (counted v.whole v.attribute) (sides_of v.shape)

abbrev pub AreSquare : List Variable → Type 0
AreSquare vs = All IsSquare vs
