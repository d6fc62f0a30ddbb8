-- What settings mean: the shape and the numbers of each named value.
use Rattle.std.specs.Prelude.{◌≡◌, ⊤, Bool, true, false, List, [], ◌∷◌, ◌++◌, map, length}
use Rattle.dcx_math.specs.Rational.{ℚ, whole, ◌/ℚ◌, neg_ℚ}
use Rattle.dcx_frac.specs.declared.fraction.Frac.{Frac}
use Rattle.dcx_frac.specs.Frac.{value}
use Rattle.dcx_shape.specs.declared.shape.Sides.{Sides}
use Rattle.dcx_shape.specs.declared.shape.Sides.TheVariants.{Scalar, Vector, Matrix}
use Rattle.dcx_shape.specs.Shape.{sides_of}
use Rattle.dcx_shape.specs.Sides.{entries_of}
use Rattle.dcx_settings.specs.declared.settings.SettingItem.{SettingItem}
use Rattle.dcx_settings.specs.Terminal.{Terminal}
use Rattle.dcx_settings.specs.Reading.{AreSpelled}
use Rattle.dcx_settings.specs.Grammar.{Size, integer, point, quotient, Number, Value, one, row, matrix, Item, Line, nothing, items, row_length}

abbrev pub size_value : Size → ℚ
size_value (integer n) = whole n
size_value (point x) = value x
size_value (quotient n d) = whole n /ℚ whole d

abbrev pub signed_value : Bool → ℚ → ℚ
signed_value true x = neg_ℚ x
signed_value false x = x

-- the number that is written
abbrev pub number_value : Number → ℚ
number_value x = signed_value x.is_negative (size_value x.size)

abbrev pub value_sides : Value → Sides
value_sides (one x) = Scalar
value_sides (row xs) = Vector (length xs)
value_sides (matrix rows) = Matrix (length rows) (row_length rows)

-- the rows one after the other
abbrev pub joined : List (List Number) → List Number
joined [] = []
joined (r ∷ rs) = r ++ joined rs

abbrev pub value_numbers : Value → List Number
value_numbers (one x) = x ∷ []
value_numbers (row xs) = xs
value_numbers (matrix rows) = joined rows

-- the fractions are the numbers
abbrev pub AreNumbers : List Number → List Frac → Type 0
AreNumbers xs fs = map value fs ≡ map number_value xs

pub record IsItemOf (i : Item) (item : SettingItem) : Type 0 where
  pub name_is : item.name ≡ i.called
  pub sides : sides_of item.shape ≡ value_sides i.value
  pub numbers_are : AreNumbers (value_numbers i.value) item.numbers

-- there is a number for each entry of the shape
abbrev pub IsFull : SettingItem → Type 0
IsFull item = length item.numbers ≡ entries_of (sides_of item.shape)

-- one after the other
abbrev pub AreItemsOf : List Item → List SettingItem → Type 0
AreItemsOf [] [] = ⊤
AreItemsOf (i ∷ is) (item ∷ others) = IsItemOf i item × AreItemsOf is others
AreItemsOf [] (item ∷ others) = ⊥
AreItemsOf (i ∷ is) [] = ⊥

abbrev pub IsLineOf : Line → List SettingItem → Type 0
IsLineOf nothing line = line ≡ []
IsLineOf (items is) line = AreItemsOf is line

abbrev pub AreLinesOf : List Line → List (List SettingItem) → Type 0
AreLinesOf [] [] = ⊤
AreLinesOf (l ∷ ls) (line ∷ others) = IsLineOf l line × AreLinesOf ls others
AreLinesOf [] (line ∷ others) = ⊥
AreLinesOf (l ∷ ls) [] = ⊥

-- the settings that the tokens spell
pub record AreSettings (tokens : List Terminal) (settings : List (List SettingItem)) : Type 0 where
  pub lines : List Line
  pub spelled : AreSpelled tokens lines
  pub lines_are : AreLinesOf lines settings
