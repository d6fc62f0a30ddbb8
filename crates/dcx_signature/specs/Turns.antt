-- What a `for` and a comprehension go through: the numbers of a range, the items of a list, the numbers of a vector.
use Rattle.std.specs.Prelude.{ℕ, zero, suc, pos, negsuc, ℤ, ◌+ℤ◌, ◌-ℤ◌, ◌*ℤ◌, nat_le, int_lt, unsigned_abs, if◌then◌else◌, List, map}
use Rattle.std.specs.Int.{div_ceil}
use Rattle.dcx_math.specs.Rational.{whole}
use Rattle.dcx_shape.specs.declared.shape.Sides.{Sides}
use Rattle.dcx_shape.specs.declared.shape.Sides.TheVariants.{Scalar, Vector, Matrix}
use Rattle.dcx_shape.specs.declared.place.Place.{Place}
use Rattle.dcx_shape.specs.Shape.{sides_of}
use Rattle.dcx_shape.specs.Places.{places_below}
use Rattle.dcx_atom.specs.declared.array.Array.{Array}
use Rattle.dcx_atom.specs.Formed.{frac_at}
use Rattle.dcx_arena.specs.declared.fault.Count.TheVariants.{Items}
use Rattle.dcx_script_values.specs.declared.fault.ElabFault.TheVariants.{NotOffered}
use Rattle.dcx_script_values.specs.Values.{Value, plain, list, range, items_of, Act, ◌>>◌, done, fault, unless, too_many, most_items}
use Rattle.dcx_array.specs.Arrays.{number}

-- ---- ranges
-- how many steps of a size are begun from the low number before the high one
abbrev pub steps_between : ℤ → ℤ → ℕ → ℕ
steps_between low high size = if int_lt low high then div_ceil (unsigned_abs (high -ℤ low)) size else 0

-- how many of first, first + step, .. come before the stop; by a step of 0 none is taken
abbrev pub range_count : ℤ → ℤ → ℤ → ℕ
range_count first stop (pos zero) = 0
range_count first stop (pos (suc k)) = steps_between first stop (suc k)
range_count first stop (negsuc k) = steps_between stop first (suc k)

-- a range, where it isn't too long
abbrev pub range_from : Place → ℤ → ℤ → ℤ → Act Value
range_from place first stop step = do
  unless (too_many place Items (range_count first stop step)) (nat_le (range_count first stop step) most_items)
  done (range first step (range_count first stop step))

-- a whole number as a value
abbrev pub whole_value : ℤ → Value
whole_value z = plain (number (frac_at (whole z)))

-- first, first + step, .., so many
abbrev pub range_items : ℤ → ℤ → ℕ → List Value
range_items first step n = map (λ k. whole_value (first +ℤ pos k *ℤ step)) (places_below n)

-- ---- what there is to go through
-- the numbers of a vector
abbrev pub vector_items : Place → Array → Sides → Act (List Value)
vector_items place a (Vector n) = done (map (λ x. plain (number x)) a.entries)
vector_items place a Scalar = fault (NotOffered place)
vector_items place a (Matrix m n) = fault (NotOffered place)

-- the items of a range, a list or a plain vector; nothing else is offered, at the word `for`
abbrev pub items_through : Place → Value → Act (List Value)
items_through place (plain a) = vector_items place a (sides_of a.shape)
items_through place (list vs) = done (items_of vs)
items_through place (range first step n) = done (range_items first step n)
items_through place v = fault (NotOffered place)
