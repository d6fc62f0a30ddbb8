-- No variable in front is whole.
use Rattle.std.proofs.Common.{ℕ, ◌<◌}
use Rattle.dcx_declared.specs.Whole.{IsWholeAt}
use Rattle.dcx_declared.proofs.whole.first_position.Given as goal

abbrev pub invariant-loop-k : goal.invariant-loop-k
invariant-loop-k l = (j : ℕ) → j < l.k → ¬ IsWholeAt l.problem j
