-- The bounds so far with their multipliers, and then the others, are all.
use Rattle.std.proofs.Common.{◌≡◌, ◌++◌, drop}
use Rattle.dcx_branch.specs.Leaves.{bound_duals}
use Rattle.dcx_branch.proofs.leaf.weighed.Given as goal

abbrev pub invariant-bounds : goal.invariant-bounds
invariant-bounds l = l.duals.items ++ bound_duals (drop l.index l.bounds) (drop l.index l.weights) ≡ bound_duals l.bounds l.weights
