-- What each operator makes of plain arrays: its array, or its first fault.
use Rattle.std.specs.Prelude.{ℕ, pos, Bool, not, map, Result, Ok}
use Rattle.std.specs.List.{list_any}
use Rattle.dcx_math.specs.Rational.{whole, neg_ℚ, rat_eq}
use Rattle.dcx_frac.specs.declared.fraction.Frac.{Frac}
use Rattle.dcx_frac.specs.declared.fraction.Passes.{Passes}
use Rattle.dcx_frac.specs.Frac.{value}
use Rattle.dcx_frac.specs.Results.{sum_of, difference_of, product_of, quotient_of}
use Rattle.dcx_shape.specs.declared.shape.Sides.{Sides}
use Rattle.dcx_shape.specs.Shape.{sides_of}
use Rattle.dcx_atom.specs.declared.array.Array.{Array}
use Rattle.dcx_atom.specs.Formed.{zero_frac, frac_at}
use Rattle.dcx_atom.specs.Entrywise.{products_from}
use Rattle.dcx_affine.specs.declared.pairing.Pairing.TheVariants.{MatTimes}
use Rattle.dcx_affine.specs.Pairing.{pairs_at}
use Rattle.dcx_affine.specs.Places.{promoted_place, transposed_sides, transposed_place}
use Rattle.dcx_array.specs.declared.fault.ArrayFault.{ArrayFault}
use Rattle.dcx_array.specs.declared.fault.ArrayFault.TheVariants.{ZeroDivisor}
use Rattle.dcx_array.specs.declared.operators.Operation.{Operation}
use Rattle.dcx_array.specs.declared.operators.Operation.TheVariants.{Sum, Difference, Product, Quotient}
use Rattle.dcx_array.specs.Answers.{◌>>=◌, ◌>>◌, unless}
use Rattle.dcx_array.specs.Shapes.{allowed_shape, shared_shape, multiplied_shape}
use Rattle.dcx_array.specs.Arrays.{entry, filled, formed_array}

-- ---- entry by entry
-- the entry that broadcasting to these sides puts at k
abbrev pub entry_beside : Array → Sides → ℕ → Frac
entry_beside a to k = entry a (promoted_place (sides_of a.shape) to k)

-- what an operation forms of two numbers
abbrev pub operated : Operation → Frac → Frac → Result Frac Passes
operated Sum x y = sum_of x y
operated Difference x y = difference_of x y
operated Product x y = product_of x y
operated Quotient x y = quotient_of x y

-- each entry of one array with that of the other, as broadcasting puts them beside each other
abbrev pub entrywise : Operation → Array → Array → Result Array ArrayFault
entrywise operation a b = do
  shape ← shared_shape (sides_of a.shape) (sides_of b.shape)
  formed_array shape (λ k. operated operation (entry_beside a (sides_of shape) k) (entry_beside b (sides_of shape) k))

-- a + b
abbrev pub added : Array → Array → Result Array ArrayFault
added a b = entrywise Sum a b

-- a - b
abbrev pub subtracted : Array → Array → Result Array ArrayFault
subtracted a b = entrywise Difference a b

-- a * b
abbrev pub multiplied : Array → Array → Result Array ArrayFault
multiplied a b = entrywise Product a b

abbrev pub is_zero : Frac → Bool
is_zero x = rat_eq (value x) (whole (pos 0))

-- a / b; a divisor of 0 comes before everything else
abbrev pub divided : Array → Array → Result Array ArrayFault
divided a b = do
  unless ZeroDivisor (not (list_any is_zero b.entries))
  entrywise Quotient a b

-- ---- matrix products
-- entry k starts from 0 and adds the product of each pair in order
abbrev pub product_entry : Array → Array → ℕ → Result Frac Passes
product_entry a b k = products_from zero_frac (map (λ p. (entry a p.left, entry b p.right)) (pairs_at MatTimes (sides_of a.shape) (sides_of b.shape) k))

-- a @ b
abbrev pub matrix_multiplied : Array → Array → Result Array ArrayFault
matrix_multiplied a b = do
  shape ← multiplied_shape (sides_of a.shape) (sides_of b.shape)
  formed_array shape (product_entry a b)

-- ---- one array
-- the number with its sign turned, for which nothing is formed
abbrev pub negated_number : Frac → Frac
negated_number x = frac_at (neg_ℚ (value x))

-- -a
abbrev pub negated : Array → Array
negated a = filled a.shape (λ k. negated_number (entry a k))

-- a.T
abbrev pub transposed : Array → Result Array ArrayFault
transposed a = do
  shape ← allowed_shape (transposed_sides (sides_of a.shape))
  Ok (filled shape (λ k. entry a (transposed_place (sides_of a.shape) k)))
