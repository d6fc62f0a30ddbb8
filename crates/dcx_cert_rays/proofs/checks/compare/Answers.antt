-- One more entry holds, or is the first that doesn't.
use Rattle.std.proofs.Common.{inr, arith, below_more}
use Rattle.dcx_cert_rays.specs.Rays.{HoldsAt}
use Rattle.dcx_cert_rays.proofs.Turns.{holding, broken}
use Rattle.dcx_cert_rays.proofs.checks.compare.Goals as goal

pub returns-then-not-holds : goal.returns-then-not-holds
returns-then-not-holds c =
    let a = c.args.along.now in
    inr (broken a.problem.now a.setting.now a.ray.now c.args.number c.args.constraint.now c.loop-entry.entry c.steepness-left.result c.steepness-right.result c.steepness-left.ensures
    c.steepness-right.ensures
    c.if-not-holds.ensures (omega (arith, c.loop-entry-test.true, c.size-entry-end.ensures)) c.loop-entry.invariant)

pub loop-entry-preserved : goal.loop-entry-preserved
loop-entry-preserved c =
    let a = c.args.along.now in
    below_more (λ j. HoldsAt a.problem.now a.setting.now a.ray.now c.args.constraint.now j) c.loop-entry.entry c.loop-entry.invariant
    (holding a.problem.now a.setting.now a.ray.now c.args.number c.args.constraint.now c.loop-entry.entry c.steepness-left.result c.steepness-right.result c.steepness-left.ensures
    c.steepness-right.ensures
    c.if-not-holds.ensures)
