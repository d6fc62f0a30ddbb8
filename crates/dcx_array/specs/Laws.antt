-- The laws of plain arrays, as the clauses of the law functions say them.
use Rattle.std.specs.Prelude.{◌≡◌, ◌≢◌, ◌↔◌, ℕ, ◌<◌, ℤ, pos, List, Some, Result, Ok, Err, IsSome}
use Rattle.std.specs.List.{All}
use Rattle.dcx_math.specs.Rational.{ℚ, whole, neg_ℚ, ◌+ℚ◌, ◌-ℚ◌, ◌*ℚ◌, ◌/ℚ◌}
use Rattle.dcx_math.specs.Sums.{rat_sum_by}
use Rattle.dcx_frac.specs.declared.fraction.Frac.{Frac}
use Rattle.dcx_frac.specs.declared.fraction.Passes.{Passes}
use Rattle.dcx_frac.specs.Frac.{value}
use Rattle.dcx_shape.specs.declared.shape.Sides.{Sides}
use Rattle.dcx_shape.specs.declared.shape.Sides.TheVariants.{Scalar}
use Rattle.dcx_shape.specs.declared.shape.Shape.{Shape}
use Rattle.dcx_shape.specs.declared.slice.Slice.{Slice}
use Rattle.dcx_shape.specs.declared.index.Pick.{Pick}
use Rattle.dcx_shape.specs.declared.fault.ShapeFault.{ShapeFault}
use Rattle.dcx_shape.specs.Shape.{sides_of}
use Rattle.dcx_shape.specs.Sides.{entries_of, HasFewEntries}
use Rattle.dcx_shape.specs.Broadcast.{IsBroadcast}
use Rattle.dcx_shape.specs.Product.{IsProduct}
use Rattle.dcx_shape.specs.Slice.{IsSlice}
use Rattle.dcx_shape.specs.Index.{HasStep, Takes, IsPickFault, IsIndex, IsIndexFault}
use Rattle.dcx_atom.specs.declared.array.Array.{Array}
use Rattle.dcx_atom.specs.Entrywise.{AreFormed, IsFirst}
use Rattle.dcx_affine.specs.declared.pairing.Pairing.TheVariants.{MatTimes}
use Rattle.dcx_affine.specs.Pairing.{pairs_at}
use Rattle.dcx_affine.specs.declared.places.Index.{Index}
use Rattle.dcx_array.specs.declared.fault.ArrayFault.TheVariants.{Wide}
use Rattle.dcx_array.specs.Answers.{fault_of}
use Rattle.dcx_array.specs.Shapes.{shape_with, broadcast_of, multiplied_sides}
use Rattle.dcx_array.specs.Arrays.{entry, formed_array, whole_of}
use Rattle.dcx_array.specs.Operators.{entry_beside, added, subtracted, multiplied, divided, matrix_multiplied, negated}
use Rattle.dcx_array.specs.Picks.{slice_places, picked, taken, indexed}

-- there is a shape exactly of 1 to 20,000 entries, and what arrays make together has the sides that the relations say
pub record HoldsForShapes : Type 0 where
  pub shape : (s : Sides) (shape : Shape) → (shape_with s ≡ Some shape) ↔ (sides_of shape ≡ s)
  pub allowed : (s : Sides) → IsSome (shape_with s) ↔ HasFewEntries s
  pub broadcast : (a b c : Sides) → (broadcast_of a b ≡ Some c) ↔ IsBroadcast a b c
  pub product : (a b c : Sides) → (multiplied_sides a b ≡ Some c) ↔ IsProduct a b c

-- a formed array has each entry as it is formed; else the first entry that isn't tells the operation that passes
pub record HoldsForForming : Type 0 where
  pub formed : (shape : Shape) (f : ℕ → Result Frac Passes) (a : Array) →
      (formed_array shape f ≡ Ok a) ↔ ((a.shape ≡ shape) × AreFormed f (entries_of (sides_of shape)) a.entries)
  pub stopped : (shape : Shape) (f : ℕ → Result Frac Passes) (passes : Passes) →
      (formed_array shape f ≡ Err (Wide passes)) ↔ IsFirst f (entries_of (sides_of shape)) passes

-- what picks take, and why they take nothing, is what the relations say; where they take something, their call is there
pub record HoldsForPicks : Type 0 where
  pub slice : (n : ℕ) (s : Slice) (places : List ℕ) → s.step ≢ pos 0 → (slice_places n s ≡ places) ↔ IsSlice n s places
  pub takes : (n : ℕ) (p : Pick) (places : List ℕ) → HasStep p → (picked n p ≡ Ok places) ↔ Takes n p places
  pub fault : (n : ℕ) (p : Pick) (fault : ShapeFault) → HasStep p → (picked n p ≡ Err (fault_of fault)) ↔ IsPickFault n p fault
  pub index : (from to : Sides) (picks : List Pick) (places : List ℕ) → All HasStep picks →
      (taken from picks ≡ Ok (record { sides = to; places = places })) ↔ IsIndex from picks to places
  pub index_fault : (from : Sides) (picks : List Pick) (fault : ShapeFault) → All HasStep picks →
      (taken from picks ≡ Err (fault_of fault)) ↔ IsIndexFault from picks fault
  pub call : (from : Shape) (picks : List Pick) (call : Index) → All HasStep picks →
      (indexed from picks ≡ Ok call) ↔ ((call.from ≡ from) × IsIndex (sides_of from) picks (sides_of call.to) call.places)

-- the sides of c are those to which a and b broadcast, and each number of c is this of the numbers beside each other
abbrev pub IsEntrywise : (ℚ → ℚ → ℚ) → Array → Array → Array → Type 0
IsEntrywise op a b c =
    IsBroadcast (sides_of a.shape) (sides_of b.shape) (sides_of c.shape)
    × ((k : ℕ) → k < entries_of (sides_of c.shape) → value (entry c k) ≡ op (value (entry_beside a (sides_of c.shape) k)) (value (entry_beside b (sides_of c.shape) k)))

-- the sides of c are those of the product of a and b, and each number of c is the sum of the products of its pairs
abbrev pub IsMatrixProduct : Array → Array → Array → Type 0
IsMatrixProduct a b c =
    IsProduct (sides_of a.shape) (sides_of b.shape) (sides_of c.shape)
    × ((k : ℕ) → k < entries_of (sides_of c.shape) →
    value (entry c k) ≡ rat_sum_by (λ p. value (entry a p.left) *ℚ value (entry b p.right)) (pairs_at MatTimes (sides_of a.shape) (sides_of b.shape) k))

-- the numbers are exact
pub record HoldsForOperators : Type 0 where
  pub sums : (a b c : Array) → added a b ≡ Ok c → IsEntrywise ◌+ℚ◌ a b c
  pub differences : (a b c : Array) → subtracted a b ≡ Ok c → IsEntrywise ◌-ℚ◌ a b c
  pub products : (a b c : Array) → multiplied a b ≡ Ok c → IsEntrywise ◌*ℚ◌ a b c
  pub quotients : (a b c : Array) → divided a b ≡ Ok c → IsEntrywise ◌/ℚ◌ a b c
  pub matrix_products : (a b c : Array) → matrix_multiplied a b ≡ Ok c → IsMatrixProduct a b c
  pub signs : (a : Array) (k : ℕ) → k < entries_of (sides_of a.shape) → value (entry (negated a) k) ≡ neg_ℚ (value (entry a k))
  pub wholes : (a : Array) (z : ℤ) → (whole_of a ≡ Some z) ↔ ((sides_of a.shape ≡ Scalar) × (value (entry a 0) ≡ whole z))
