-- The places so far are the sources of the entries so far.
use Rattle.std.proofs.Common.{ℕ, ◌≡◌, ◌<◌, length, get_or}
use Rattle.dcx_shape.specs.Shape.{sides_of}
use Rattle.dcx_shape.specs.Reshape.{IsSource}
use Rattle.dcx_shape.proofs.reshape.reshape_map.Given as goal

abbrev pub invariant-loop-k : goal.invariant-loop-k
invariant-loop-k l = (length l.places.items ≡ l.k) × ((q : ℕ) → q < l.k → IsSource l.by_columns (sides_of l.from) (sides_of l.to) q (get_or l.places.items q 0))
