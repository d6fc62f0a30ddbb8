-- The number so far, mixed with the places that are left, is that of all places.
use Rattle.std.proofs.Common.{◌≡◌, drop}
use Rattle.dcx_call.specs.Buckets.{all_mixed}
use Rattle.dcx_call.proofs.buckets.places_number.Given as goal

abbrev pub invariant-loop-place : goal.invariant-loop-place
invariant-loop-place l = all_mixed l.n (drop l.place-index l.places) ≡ all_mixed 0 l.places
