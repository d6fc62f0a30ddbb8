-- The entries of the variables so far, and then those of the others, are all.
use Rattle.std.proofs.Common.{◌≡◌, ◌++◌, drop}
use Rattle.dcx_branch.specs.Places.{places_from, places}
use Rattle.dcx_branch.proofs.place.places_of.Given as goal

abbrev pub invariant-variables : goal.invariant-variables
invariant-variables l = l.places.items ++ places_from l.variables l.number (drop l.number l.variables) ≡ places l.variables
