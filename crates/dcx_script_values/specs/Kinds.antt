-- What a value may stand for: an operand, a whole number, a shape, rows of numbers, an axis.
use Rattle.std.specs.Prelude.{
  ℕ,
  nat_eq,
  pos,
  negsuc,
  int_le,
  ℤ,
  unsigned_abs,
  Bool,
  true,
  false,
  ◌&&◌,
  ◌||◌,
  if◌then◌else◌,
  List,
  [],
  ◌∷◌,
  map,
  length,
  Option,
  Some,
  None,
  option_and_then,
  option_map,
}
use Rattle.std.specs.List.{list_all, list_any, flat_map}
use Rattle.dcx_frac.specs.declared.fraction.Frac.{Frac}
use Rattle.dcx_shape.specs.declared.shape.Sides.{Sides}
use Rattle.dcx_shape.specs.declared.shape.Sides.TheVariants.{Scalar, Vector, Matrix}
use Rattle.dcx_shape.specs.Shape.{sides_of}
use Rattle.dcx_shape.specs.Sides.{rank_of}
use Rattle.dcx_atom.specs.declared.array.Array.{Array}
use Rattle.dcx_atom.specs.declared.axis.Axis.{Axis}
use Rattle.dcx_atom.specs.declared.axis.Axis.TheVariants as axes
use Rattle.dcx_atom.specs.Formed.{zero_frac}
use Rattle.dcx_arena.specs.Nodes.{Node}
use Rattle.dcx_call.specs.declared.call.Call.{Call}
use Rattle.dcx_script_values.specs.Values.{Value, plain, nothing, tuple, list, expression, items_of}
use Rattle.dcx_array.specs.Arrays.{entry, array_with, whole_of}
use Rattle.dcx_script_values.specs.Nodes.{Operand, standing, constant, operand_sides}

-- ---- numbers
abbrev pub is_scalar : Sides → Bool
is_scalar s = nat_eq (rank_of s) 0

-- a plain number
abbrev pub is_number : Value → Bool
is_number (plain a) = is_scalar (sides_of a.shape)
is_number v = false

-- the number that a plain number is
abbrev pub number_of : Value → Frac
number_of (plain a) = entry a 0
number_of v = zero_frac

-- the whole number that a value is
abbrev pub whole_number : Value → Option ℤ
whole_number (plain a) = whole_of a
whole_number v = None

-- ---- lists of numbers
abbrev pub is_list : Value → Bool
is_list (list vs) = true
is_list v = false

abbrev pub list_items : Value → List Value
list_items (list vs) = items_of vs
list_items v = []

-- a list of plain numbers
abbrev pub is_flat : Value → Bool
is_flat (list vs) = list_all is_number (items_of vs)
is_flat v = false

-- the vector that a list of numbers stands for
abbrev pub vector_of : List Value → Option Array
vector_of vs = array_with (Vector (length vs)) (map number_of vs)

-- ---- operands
-- what a value is where an expression is wanted: an operand; a nested list; an empty list; or of a wrong kind
pub data Reading : Type 0 where
  operand : Operand → Reading
  nested : Reading
  empty : Reading
  unfit : Reading

abbrev pub or_unfit : Option Array → Reading
or_unfit (Some a) = operand (constant a)
or_unfit None = unfit

-- a list of numbers stands for a vector; a list with a list in it, whatever else it holds, is nested
abbrev pub list_reading : List Value → Reading
list_reading [] = empty
list_reading (v ∷ vs) =
    if list_all is_number (v ∷ vs) then or_unfit (vector_of (v ∷ vs))
    else (if list_any is_list (v ∷ vs) then nested else unfit)

abbrev pub reading : Value → Reading
reading (plain a) = operand (constant a)
reading (expression i) = operand (standing i)
reading (list vs) = list_reading (items_of vs)
reading v = unfit

abbrev pub is_fit : Reading → Bool
is_fit (operand x) = true
is_fit nested = true
is_fit empty = true
is_fit unfit = false

abbrev pub is_nested : Reading → Bool
is_nested (operand x) = false
is_nested nested = true
is_nested empty = false
is_nested unfit = false

abbrev pub is_empty : Reading → Bool
is_empty (operand x) = false
is_empty nested = false
is_empty empty = true
is_empty unfit = false

-- the sides of an operand
abbrev pub reading_sides : List (Node Call) → Reading → Option Sides
reading_sides nodes (operand x) = Some (operand_sides nodes x)
reading_sides nodes nested = None
reading_sides nodes empty = None
reading_sides nodes unfit = None

-- numbers without a node: a plain number or array, or a list of numbers, which may be empty
abbrev pub is_constant : Reading → Bool
is_constant (operand (constant a)) = true
is_constant (operand (standing i)) = false
is_constant nested = false
is_constant empty = true
is_constant unfit = false

-- ---- shapes
-- a whole number that is at least the least
abbrev pub side_from : ℤ → ℤ → Option ℕ
side_from least z = if int_le least z then Some (unsigned_abs z) else None

abbrev pub side_of : ℤ → Value → Option ℕ
side_of least v = option_and_then (side_from least) (whole_number v)

abbrev pub two_sides : Option ℕ → Option ℕ → Option Sides
two_sides (Some m) (Some n) = Some (Matrix m n)
two_sides (Some m) None = None
two_sides None n = None

abbrev pub tuple_sides : ℤ → List Value → Option Sides
tuple_sides least [] = Some Scalar
tuple_sides least (v ∷ []) = option_map Vector (side_of least v)
tuple_sides least (v ∷ w ∷ []) = two_sides (side_of least v) (side_of least w)
tuple_sides least (v ∷ w ∷ u ∷ rest) = None

-- the sides that a whole number or a tuple of at most two is, each at least the least
abbrev pub sides_from : ℤ → Value → Option Sides
sides_from least (tuple vs) = tuple_sides least (items_of vs)
sides_from least (plain a) = option_map Vector (side_of least (plain a))
sides_from least v = None

abbrev pub is_square : Sides → Bool
is_square Scalar = false
is_square (Vector n) = false
is_square (Matrix m n) = nat_eq m n

-- ---- rows of numbers
-- a list of numbers, or a list of lists of numbers that are as long as the first
abbrev pub is_long : ℕ → Value → Bool
is_long n v = is_flat v && nat_eq (length (list_items v)) n

abbrev pub are_rows : List Value → Bool
are_rows [] = true
are_rows (v ∷ vs) = list_all is_number (v ∷ vs) || list_all (is_long (length (list_items v))) (v ∷ vs)

abbrev pub rows_sides : List Value → Sides
rows_sides [] = Vector 0
rows_sides (v ∷ vs) = if is_list v then Matrix (length (v ∷ vs)) (length (list_items v)) else Vector (length (v ∷ vs))

abbrev pub row_numbers : Value → List Frac
row_numbers v = if is_list v then map number_of (list_items v) else number_of v ∷ []

-- the array of rows of numbers; None where they are not equally long, and where there is no entry
abbrev pub rows_array : List Value → Option Array
rows_array vs = if are_rows vs then array_with (rows_sides vs) (flat_map row_numbers vs) else None

-- ---- axes
abbrev pub axis_from : ℤ → Option Axis
axis_from (pos n) = if nat_eq n 0 then Some axes.Zero else (if nat_eq n 1 then Some axes.One else None)
axis_from (negsuc n) = None

-- None, 0 or 1
abbrev pub axis_of : Value → Option Axis
axis_of nothing = Some axes.All
axis_of (plain a) = option_and_then axis_from (whole_of a)
axis_of v = None
