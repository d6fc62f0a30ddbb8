-- The entries so far hold.
use Rattle.std.proofs.Common.{ℕ, ◌<◌}
use Rattle.dcx_cert_rays.specs.Rays.{HoldsAt}
use Rattle.dcx_cert_rays.proofs.checks.compare.Given as goal

abbrev pub invariant-loop-entry : goal.invariant-loop-entry
invariant-loop-entry l = (j : ℕ) → j < l.entry → HoldsAt l.along.problem.now l.along.setting.now l.along.ray.now l.constraint j
