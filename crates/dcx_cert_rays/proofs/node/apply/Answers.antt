-- The value of the call at its arguments is the node's steepness.
use Rattle.std.proofs.Common.{inr, IsSome, refl, sym, subst}
use Rattle.dcx_cert_rays.proofs.Applied.{applied_given, applied_shape, applied_value, applied_passes, applied_divides}
use Rattle.dcx_cert_rays.proofs.node.apply.Goals as goal

pub value-requires-clause-shape : goal.value-requires-clause-shape
value-requires-clause-shape c =
    let a = c.args.along.now in
    subst IsSome (sym (applied_shape a.problem.now a.setting.now a.ray.now c.args.node.0 c.call-call.result.now c.call-call.ensures c.requires.moves c.args.args.now c.requires.args)) refl

pub value-requires-clause-given : goal.value-requires-clause-given
value-requires-clause-given c =
    let a = c.args.along.now in
    applied_given a.problem.now a.setting.now a.ray.now c.args.node.0 c.call-call.result.now c.call-call.ensures c.requires.moves c.requires.given.shaped

pub unreachable-requires : goal.unreachable-requires
unreachable-requires c =
    let a = c.args.along.now in
    applied_divides a.problem.now a.setting.now a.ray.now c.args.node.0 c.call-call.result.now c.call-call.ensures c.requires.moves c.args.args.now c.requires.args c.requires.given.fitting
    c.in-Err-ZeroDivisor.field-0-0 c.in-Err-ZeroDivisor.field-0 c.in-Err-ZeroDivisor.field-0-is c.in-Err-ZeroDivisor.ensures.stop

pub returns-in-Ok-clause-ok : goal.returns-in-Ok-clause-ok
returns-in-Ok-clause-ok c =
    let a = c.args.along.now in
    applied_value a.problem.now a.setting.now a.ray.now c.args.node.0 c.call-call.result.now c.call-call.ensures c.requires.moves c.args.args.now c.requires.args c.in-Ok.array c.in-Ok.ensures.ok

pub returns-in-Err-Passes-clause-stop : goal.returns-in-Err-Passes-clause-stop
returns-in-Err-Passes-clause-stop c =
    let a = c.args.along.now in
    inr (applied_passes a.problem.now a.setting.now a.ray.now c.args.node.0 c.call-call.result.now c.call-call.ensures c.requires.moves c.args.args.now c.requires.args
    c.in-Err-Passes.field-0-0 c.in-Err-Passes.passes c.in-Err-Passes.field-0 c.in-Err-Passes.field-0-is c.in-Err-Passes.ensures.stop)
