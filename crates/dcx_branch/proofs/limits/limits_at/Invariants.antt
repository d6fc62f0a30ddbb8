-- The sides that are left make of the bounds so far those of all sides.
use Rattle.std.proofs.Common.{◌≡◌, drop}
use Rattle.dcx_right.specs.Boxes.{mark_bounds}
use Rattle.dcx_branch.specs.Sides.{limits_of, sided}
use Rattle.dcx_branch.proofs.limits.limits_at.Given as goal

abbrev pub invariant-sides : goal.invariant-sides
invariant-sides l = sided (limits_of l.limits) l.place.variable l.place.entry (drop l.side-index l.sides) ≡ sided (mark_bounds l.place.whole) l.place.variable l.place.entry l.sides
