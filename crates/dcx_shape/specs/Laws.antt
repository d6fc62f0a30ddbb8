-- The laws of broadcasting, slices, indices and reshapes, as the clauses of the law functions say them.
use Rattle.std.specs.Prelude.{◌≡◌, ◌↔◌, ℕ, ◌+◌, ◌<◌, pos, negsuc, ◌<ℤ◌, Bool, false, None, List, length, reverse, slice_index}
use Rattle.std.specs.List.{All, Contains}
use Rattle.std.specs.List.Sorted.{IsPermutation, IsStrictlyIncreasing}
use Rattle.dcx_shape.specs.declared.shape.Sides.{Sides}
use Rattle.dcx_shape.specs.declared.slice.Slice.{Slice}
use Rattle.dcx_shape.specs.declared.index.Pick.{Pick}
use Rattle.dcx_shape.specs.declared.index.Pick.TheVariants.{Range}
use Rattle.dcx_shape.specs.Sides.{HasFewEntries, entries_of}
use Rattle.dcx_shape.specs.Places.{places_below}
use Rattle.dcx_shape.specs.Broadcast.{IsBroadcast}
use Rattle.dcx_shape.specs.Slice.{stop_for, IsBefore, slice_place, IsSlice}
use Rattle.dcx_shape.specs.Index.{whole_slice, IsIndex}
use Rattle.dcx_shape.specs.Reshape.{IsReshape}

-- a and b broadcast to c, which is no larger than an array may be
pub record Broadcasts (a b c : Sides) : Type 0 where
  pub is : IsBroadcast a b c
  pub few : HasFewEntries c

-- two arrays broadcast to one shape, in either order; of three, it doesn't matter which two come first
pub record HoldsForBroadcasts : Type 0 where
  pub one : (a b c d : Sides) → IsBroadcast a b c → IsBroadcast a b d → c ≡ d
  pub commutes : (a b c : Sides) → IsBroadcast a b c → IsBroadcast b a c
  pub associates : (a b c d : Sides) → HasFewEntries a → HasFewEntries b → HasFewEntries c →
      ((x : Sides) × Broadcasts a b x × Broadcasts x c d) ↔ ((y : Sides) × Broadcasts b c y × Broadcasts a y d)

-- the slice `::-1`
abbrev pub reversing_slice : Slice
reversing_slice = record { start = None; stop = None; step = negsuc 0 }

-- a slice has one list of places: the set of those at whole steps from the start and before the stop, rising or falling
-- with the step; `:` takes all in order, and `::-1` all in reverse
pub record HoldsForSlices : Type 0 where
  pub one : (n : ℕ) (s : Slice) (xs ys : List ℕ) → IsSlice n s xs → IsSlice n s ys → xs ≡ ys
  pub set : (n : ℕ) (s : Slice) (xs : List ℕ) → IsSlice n s xs → (p : ℕ) →
      Contains xs p ↔ ((k : ℕ) × (pos p ≡ slice_place n s k) × IsBefore s.step (pos p) (stop_for n s.step s.stop))
  pub rises : (n : ℕ) (s : Slice) (xs : List ℕ) → pos 0 <ℤ s.step → IsSlice n s xs → IsStrictlyIncreasing xs
  pub falls : (n : ℕ) (s : Slice) (xs : List ℕ) → s.step <ℤ pos 0 → IsSlice n s xs →
      (k : ℕ) → k + 1 < length xs → slice_index xs (k + 1) < slice_index xs k
  pub whole : (n : ℕ) (xs : List ℕ) → IsSlice n whole_slice xs ↔ (xs ≡ places_below n)
  pub reversal : (n : ℕ) (xs : List ℕ) → IsSlice n reversing_slice xs ↔ (xs ≡ reverse (places_below n))

-- an index gives one shape and one list of places; whole slices, as many as one likes, give the array itself
pub record HoldsForIndices : Type 0 where
  pub one : (from to other : Sides) (picks : List Pick) (xs ys : List ℕ) → IsIndex from picks to xs → IsIndex from picks other ys →
      (to ≡ other) × (xs ≡ ys)
  pub whole : (from to : Sides) (picks : List Pick) (xs : List ℕ) → All (λ p. p ≡ Range whole_slice) picks → IsIndex from picks to xs →
      (to ≡ from) × (xs ≡ places_below (entries_of from))

-- a reshape has one list of places, a permutation of all; there and back each entry is where it was; by rows none moves
pub record HoldsForReshapes : Type 0 where
  pub one : (by_columns : Bool) (from to : Sides) (xs ys : List ℕ) → IsReshape by_columns from to xs → IsReshape by_columns from to ys →
      xs ≡ ys
  pub permutes : (by_columns : Bool) (from to : Sides) (xs : List ℕ) → IsReshape by_columns from to xs →
      IsPermutation (places_below (entries_of from)) xs
  pub back : (by_columns : Bool) (from to : Sides) (there back : List ℕ) → IsReshape by_columns from to there → IsReshape by_columns to from back →
      (k : ℕ) → k < entries_of from → slice_index there (slice_index back k) ≡ k
  pub rows : (from to : Sides) (xs : List ℕ) → IsReshape false from to xs → xs ≡ places_below (entries_of to)
