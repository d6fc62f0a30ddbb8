-- What the value of a nonlinear call is, as the code has it, and where it stops.
use Rattle.std.specs.Prelude.{◌≡◌, ℕ, ◌<◌, List, Some, Result, Err, IsOk, ⊤}
use Rattle.dcx_frac.specs.declared.fraction.Frac.{Frac}
use Rattle.dcx_frac.specs.declared.fraction.Passes.{Passes}
use Rattle.dcx_shape.specs.Shape.{sides_of}
use Rattle.dcx_shape.specs.Sides.{entries_of}
use Rattle.dcx_atom.specs.declared.array.Array.{Array}
use Rattle.dcx_atom.specs.declared.stops.ValueStop.{ValueStop}
use Rattle.dcx_atom.specs.declared.stops.ValueStop.TheVariants as stops
use Rattle.dcx_atom.specs.Arrays.{numbers_of, array_sides, number_at}
use Rattle.dcx_atom.specs.Formed.{sum_in_order}
use Rattle.dcx_atom.specs.Meaning.{Meaning}

-- entry j of the value at these arguments, or the first addition of its summands that passes
abbrev pub entry_formed : Meaning → List Array → ℕ → Result Frac Passes
entry_formed m args j = sum_in_order (m.summands (array_sides args) (numbers_of args) j)

-- the array is the value at these arguments, and no addition passes on the way
pub record IsValueOf (m : Meaning) (args : List Array) (v : Array) : Type 0 where
  pub shape : m.shape (array_sides args) ≡ Some (sides_of v.shape)
  pub numbers : (j : ℕ) → j < entries_of (sides_of v.shape) → number_at v.entries j ≡ m.value (array_sides args) (numbers_of args) j
  pub forms : (j : ℕ) → j < entries_of (sides_of v.shape) → IsOk (entry_formed m args j)

-- the addition that passes is the first one: no earlier entry has one that passes, and it is the first of this entry's
pub record IsFirstPassing (m : Meaning) (args : List Array) (entry : ℕ) (passes : Passes) : Type 0 where
  pub before : (j : ℕ) → j < entry → IsOk (entry_formed m args j)
  pub here : entry_formed m args entry ≡ Err passes

-- why a value isn't formed: its first addition that passes, or want of memory; a nonlinear call divides by nothing
abbrev pub IsValueStop : Meaning → List Array → ℕ → ValueStop → Type 0
IsValueStop m args size (stops.Passes entry passes) = (entry < size) × IsFirstPassing m args entry passes
IsValueStop m args size (stops.ZeroDivisor entry) = ⊥
IsValueStop m args size stops.Memory = ⊤
