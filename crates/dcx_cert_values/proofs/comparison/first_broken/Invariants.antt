-- At the entries before, the arrays stand to each other as asked.
use Rattle.std.proofs.Common.{ℕ, ◌<◌}
use Rattle.dcx_cert_values.specs.Broken.{HoldsAt}
use Rattle.dcx_cert_values.proofs.comparison.first_broken.Given as goal

abbrev pub invariant-loop-entry : goal.invariant-loop-entry
invariant-loop-entry l = (k : ℕ) → k < l.entry → HoldsAt l.kind l.left.entries l.right.entries k
