-- No entry so far has a number that isn't whole.
use Rattle.std.proofs.Common.{◌≡◌, ℕ, ◌<◌, Some, slice_get}
use Rattle.dcx_postsolve.specs.Points.{numbered}
use Rattle.dcx_right.specs.Points.{IsWhole}
use Rattle.dcx_branch.specs.declared.place.Place.{Place}
use Rattle.dcx_branch.proofs.node.first_split.Given as goal

abbrev pub invariant-places : goal.invariant-places
invariant-places l = (i : ℕ) (q : Place) → i < l.place-index → slice_get l.places i ≡ Some q → IsWhole (numbered l.numbers q.unknown)
