-- The bounds so far, and then those of the other entries, are all.
use Rattle.std.proofs.Common.{◌≡◌, ◌++◌, drop}
use Rattle.dcx_branch.specs.Sides.{box_bounds}
use Rattle.dcx_branch.proofs.limits.bounds_of.Given as goal

abbrev pub invariant-places : goal.invariant-places
invariant-places l = l.bounds.items ++ box_bounds (drop l.place-index l.places) l.sides ≡ box_bounds l.places l.sides
