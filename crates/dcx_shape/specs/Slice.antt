-- Slices as Python has them.
use Rattle.std.specs.Prelude.{◌≡◌, ◌↔◌, ℕ, ◌<◌, ℤ, pos, negsuc, ◌+ℤ◌, ◌-ℤ◌, ◌*ℤ◌, ◌<ℤ◌, Option, Some, None, List, length, slice_index}
use Rattle.std.specs.Int.{int_max, int_min}
use Rattle.dcx_shape.specs.declared.slice.Slice.{Slice}

-- a whole number on a side of n entries: a negative one counts from the end
abbrev pub counted : ℕ → ℤ → ℤ
counted n (pos i) = pos i
counted n (negsuc i) = negsuc i +ℤ pos n

-- the number from low to high that is nearest to z
abbrev pub clipped : ℤ → ℤ → ℤ → ℤ
clipped low high z = int_max low (int_min z high)

-- an end of a slice: the default where it isn't written, else the number, counted and clipped
abbrev pub end_of : ℕ → ℤ → ℤ → ℤ → Option ℤ → ℤ
end_of n low high default None = default
end_of n low high default (Some i) = clipped low high (counted n i)

-- where a slice with this step starts: an upward one at 0 by default, a downward one at the last entry
abbrev pub start_for : ℕ → ℤ → Option ℤ → ℤ
start_for n (pos step) start = end_of n (pos 0) (pos n) (pos 0) start
start_for n (negsuc step) start = end_of n (negsuc 0) (pos n -ℤ pos 1) (pos n -ℤ pos 1) start

-- where it stops: by default behind the last entry, and a downward one before entry 0
abbrev pub stop_for : ℕ → ℤ → Option ℤ → ℤ
stop_for n (pos step) stop = end_of n (pos 0) (pos n) (pos n) stop
stop_for n (negsuc step) stop = end_of n (negsuc 0) (pos n -ℤ pos 1) (negsuc 0) stop

-- z comes before the stop on the way of the step
abbrev pub IsBefore : ℤ → ℤ → ℤ → Type 0
IsBefore (pos step) z stop = z <ℤ stop
IsBefore (negsuc step) z stop = stop <ℤ z

-- place k of the slice, where it has so many
abbrev pub slice_place : ℕ → Slice → ℕ → ℤ
slice_place n s k = start_for n s.step s.start +ℤ pos k *ℤ s.step

-- the places of a slice on a side of n entries: start, start + step, .. as long as they come before the stop
pub record IsSlice (n : ℕ) (s : Slice) (places : List ℕ) : Type 0 where
  pub some : (k : ℕ) → (k < length places) ↔ IsBefore s.step (slice_place n s k) (stop_for n s.step s.stop)
  pub are : (k : ℕ) → k < length places → pos (slice_index places k) ≡ slice_place n s k

-- the number at a distance from z on the way of the step
abbrev pub moved : ℤ → ℤ → ℕ → ℤ
moved (pos step) z d = z +ℤ pos d
moved (negsuc step) z d = z -ℤ pos d
