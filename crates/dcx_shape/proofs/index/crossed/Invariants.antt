-- The places so far are those of the entries so far.
use Rattle.std.proofs.Common.{ℕ, ◌≡◌, ◌<◌, ◌/◌, ◌%◌, length, get_or}
use Rattle.dcx_shape.specs.Shape.{sides_of}
use Rattle.dcx_shape.specs.Places.{row_place}
use Rattle.dcx_shape.specs.Run.{run_place}
use Rattle.dcx_shape.proofs.index.crossed.Given as goal

abbrev pub invariant-loop-k : goal.invariant-loop-k
invariant-loop-k l = (length l.places.items ≡ l.k)
    × ((q : ℕ) → q < l.k → get_or l.places.items q 0 ≡ row_place (sides_of l.from) (run_place l.rows (q / l.columns.count)) (run_place l.columns (q % l.columns.count)))
