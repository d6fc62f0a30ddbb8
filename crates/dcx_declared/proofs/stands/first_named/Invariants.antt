-- No node in front declares the name.
use Rattle.std.proofs.Common.{ℕ, ◌<◌}
use Rattle.dcx_declared.specs.Stands.{IsNamedAt}
use Rattle.dcx_declared.proofs.stands.first_named.Given as goal

abbrev pub invariant-loop-i : goal.invariant-loop-i
invariant-loop-i l = (j : ℕ) → j < l.i → ¬ IsNamedAt l.tree l.name j
