-- The nodes so far are known.
use Rattle.std.proofs.Common.{ℕ, ◌<◌, length, get_or}
use Rattle.dcx_cert_rays.specs.Steepness.{IsKnown}
use Rattle.dcx_cert_rays.proofs.table.are_known.Given as goal

abbrev pub invariant-loop-node : goal.invariant-loop-node
invariant-loop-node l = (k : ℕ) → k < l.node-index → k < length l.nodes → IsKnown l.along.problem.now l.arrays (get_or l.nodes k (record { 0 = 0 })).0
