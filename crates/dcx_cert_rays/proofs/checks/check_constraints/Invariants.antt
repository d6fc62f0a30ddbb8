-- The constraints so far are kept.
use Rattle.std.proofs.Common.{ℕ, ◌<◌, slice_get}
use Rattle.dcx_cert_rays.specs.Steepness.{AreKept}
use Rattle.dcx_cert_rays.specs.Rays.{constraint_check}
use Rattle.dcx_cert_rays.proofs.checks.check_constraints.Given as goal

abbrev pub invariant-loop-number : goal.invariant-loop-number
invariant-loop-number l = record {
  kept : AreKept l.along.problem.now l.along.setting.now l.along.ray.now l.arrays.items;
  passed : (k : ℕ) → k < l.number → (constraint_check l.along.problem.now l.along.setting.now l.along.ray.now k (slice_get l.along.problem.now.constraints k)).passes;
}
