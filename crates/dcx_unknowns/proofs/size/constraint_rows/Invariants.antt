-- The rows of the constraints so far.
use Rattle.std.proofs.Common.{◌≡◌, take, sum_by}
use Rattle.dcx_linear.specs.Size.{capped}
use Rattle.dcx_unknowns.specs.Layout.{constraint_rows}
use Rattle.dcx_unknowns.proofs.size.constraint_rows.Given as goal

abbrev pub invariant-constraints : goal.invariant-constraints
invariant-constraints l = l.count ≡ capped (sum_by constraint_rows (take l.constraint-index l.constraints))
