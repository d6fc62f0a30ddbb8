-- Plain arrays: their entries, how these are formed in 128 bits, and arrays of given numbers.
use Rattle.std.specs.Prelude.{ℕ, ◌/◌, ◌%◌, nat_eq, int_le, ℤ, pos, if◌then◌else◌, List, [], ◌∷◌, slice_index_or, Option, Some, None, option_map, Result, Ok, Err}
use Rattle.dcx_frac.specs.declared.fraction.Frac.{Frac}
use Rattle.dcx_frac.specs.declared.fraction.Passes.{Passes}
use Rattle.dcx_frac.specs.Frac.{num_of, den_of}
use Rattle.dcx_shape.specs.declared.shape.Sides.{Sides}
use Rattle.dcx_shape.specs.declared.shape.Sides.TheVariants.{Scalar, Vector, Matrix}
use Rattle.dcx_shape.specs.declared.shape.Shape.{Shape}
use Rattle.dcx_shape.specs.Shape.{sides_of}
use Rattle.dcx_shape.specs.Sides.{entries_of}
use Rattle.dcx_atom.specs.declared.array.Array.{Array}
use Rattle.dcx_atom.specs.Arrays.{list_below}
use Rattle.dcx_atom.specs.Formed.{zero_frac, one_frac}
use Rattle.dcx_atom.proofs.BoundRows.{length-list_below}
use Rattle.dcx_array.specs.declared.fault.ArrayFault.{ArrayFault}
use Rattle.dcx_array.specs.declared.fault.ArrayFault.TheVariants.{Wide}
use Rattle.dcx_array.specs.Answers.{◌>>=◌}
use Rattle.dcx_array.specs.Shapes.{shape_with, allowed_shape, scalar_shape}

-- entry k, in row-major order
abbrev pub entry : Array → ℕ → Frac
entry a k = slice_index_or a.entries k zero_frac

-- the array of this shape whose entry k is f k
abbrev pub filled : Shape → (ℕ → Frac) → Array
filled shape f = record { shape = shape; entries = list_below (entries_of (sides_of shape)) f; full = length-list_below (entries_of (sides_of shape)) f }

-- ---- entries that are formed
abbrev pub stop_in : Result Frac Passes → Option Passes → Option Passes
stop_in (Ok x) later = later
stop_in (Err passes) later = Some passes

-- the first of several that passes
abbrev pub first_stop : List (Result Frac Passes) → Option Passes
first_stop [] = None
first_stop (r ∷ rs) = stop_in r (first_stop rs)

-- what was formed
abbrev pub formed_number : Result Frac Passes → Frac
formed_number (Ok x) = x
formed_number (Err passes) = zero_frac

-- the array of this shape with entry k as it is formed, or the first operation that passes, in row-major order
abbrev pub formed_unless : Shape → (ℕ → Result Frac Passes) → Option Passes → Result Array ArrayFault
formed_unless shape f (Some passes) = Err (Wide passes)
formed_unless shape f None = Ok (filled shape (λ k. formed_number (f k)))

abbrev pub formed_array : Shape → (ℕ → Result Frac Passes) → Result Array ArrayFault
formed_array shape f = formed_unless shape f (first_stop (list_below (entries_of (sides_of shape)) f))

-- ---- arrays of given numbers
-- the plain number x, an array without a side
abbrev pub number : Frac → Array
number x = filled scalar_shape (λ k. x)

-- the array of these sides with these numbers; None where no array has so many entries
abbrev pub array_with : Sides → List Frac → Option Array
array_with sides xs = option_map (λ shape. filled shape (λ k. slice_index_or xs k zero_frac)) (shape_with sides)

-- the array of these sides whose entry k is f k
abbrev pub made : Sides → (ℕ → Frac) → Result Array ArrayFault
made sides f = do
  shape ← allowed_shape sides
  Ok (filled shape f)

-- the same number everywhere
abbrev pub constant : Sides → Frac → Result Array ArrayFault
constant sides x = made sides (λ k. x)

-- 1 on the diagonal, and 0 elsewhere
abbrev pub identity_entry : ℕ → ℕ → Frac
identity_entry n k = if nat_eq (k / n) (k % n) then one_frac else zero_frac

abbrev pub identity : ℕ → Result Array ArrayFault
identity n = made (Matrix n n) (identity_entry n)

-- ---- whole numbers
-- the whole number that the number of an array with these sides is, however it was written
abbrev pub whole_entry : Sides → Frac → Option ℤ
whole_entry Scalar x = if int_le (den_of x) (pos 1) then Some (num_of x) else None
whole_entry (Vector n) x = None
whole_entry (Matrix m n) x = None

abbrev pub whole_of : Array → Option ℤ
whole_of a = whole_entry (sides_of a.shape) (entry a 0)
