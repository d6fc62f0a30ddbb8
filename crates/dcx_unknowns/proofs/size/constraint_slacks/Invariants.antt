-- The slacks of the constraints so far.
use Rattle.std.proofs.Common.{◌≡◌, take, sum_by}
use Rattle.dcx_linear.specs.Size.{capped}
use Rattle.dcx_unknowns.specs.Layout.{constraint_slacks}
use Rattle.dcx_unknowns.proofs.size.constraint_slacks.Given as goal

abbrev pub invariant-constraints : goal.invariant-constraints
invariant-constraints l = l.count ≡ capped (sum_by constraint_slacks (take l.constraint-index l.constraints))
