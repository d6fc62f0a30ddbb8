-- The entries so far, and then the others, are all.
use Rattle.std.proofs.Common.{◌≡◌, ◌++◌, drop}
use Rattle.dcx_branch.specs.Places.{places_of}
use Rattle.dcx_branch.proofs.place.push_entries.Given as goal

abbrev pub invariant-entries : goal.invariant-entries
invariant-entries l = l.places.items ++ places_of l.variable l.whole l.entry (drop l.entry l.unknowns) ≡ l.fn.places.items ++ places_of l.variable l.whole 0 l.unknowns
