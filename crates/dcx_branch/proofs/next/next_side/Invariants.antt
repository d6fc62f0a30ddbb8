-- What is left has the same boxes open beside it.
use Rattle.std.proofs.Common.{◌≡◌, vec_len}
use Rattle.dcx_right.specs.Boxes.{Box}
use Rattle.dcx_branch.specs.Sides.{open_sides}
use Rattle.dcx_branch.proofs.next.next_side.Given as goal

abbrev pub invariant-sides : goal.invariant-sides
invariant-sides l = (box : Box) → open_sides box l.fn.sides.items ≡ open_sides box l.sides.items

abbrev pub decreases-sides : goal.decreases-sides
decreases-sides l = vec_len l.sides
