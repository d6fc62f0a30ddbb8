-- The places so far are those of the points passed.
use Rattle.std.proofs.Common.{◌≡◌}
use Rattle.dcx_trial.specs.Trial.{places}
use Rattle.dcx_trial.proofs.script.places.Given as goal

abbrev pub invariant-loop-place : goal.invariant-loop-place
invariant-loop-place l = l.found.items ≡ places l.place
