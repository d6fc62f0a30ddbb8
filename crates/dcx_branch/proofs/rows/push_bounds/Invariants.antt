-- The rows of the bounds so far, and then those of the others, are all.
use Rattle.std.proofs.Common.{◌≡◌, ◌++◌, drop}
use Rattle.dcx_branch.specs.Rows.{bound_rows}
use Rattle.dcx_branch.proofs.rows.push_bounds.Given as goal

abbrev pub invariant-bounds : goal.invariant-bounds
invariant-bounds l = l.rows.items ++ bound_rows (drop l.bound-index l.bounds) ≡ l.fn.rows.items ++ bound_rows l.bounds
