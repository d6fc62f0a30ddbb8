-- The places so far are the first of the run's.
use Rattle.std.proofs.Common.{◌≡◌, map}
use Rattle.dcx_shape.specs.Places.{places_below}
use Rattle.dcx_shape.specs.Run.{run_place}
use Rattle.dcx_shape.proofs.run.Run.places.Given as goal

abbrev pub invariant-loop-k : goal.invariant-loop-k
invariant-loop-k l = l.places.items ≡ map (run_place l.self) (places_below l.k)
