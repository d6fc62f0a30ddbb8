-- Where nothing is outside, each entry is as is demanded, and else the first is told that isn't.
use Rattle.std.proofs.Common.{inr, refl}
use Rattle.dcx_answer.specs.declared.cert_fault.CertFault.TheVariants as faults
use Rattle.dcx_cert_check.proofs.Demands.{outside_fails}
use Rattle.dcx_cert_check.proofs.Sound.{checks_sound}
use Rattle.dcx_cert_check.proofs.domain.check_ray_domain.Goals as goal

pub returns-in-None : goal.returns-in-None
returns-in-None c = (checks_sound.ray c.args.problem.now c.args.ray.now).1 (c.in-None.ensures.inside.0 refl)

pub returns-in-Some : goal.returns-in-Some
returns-in-Some c =
    let first = c.in-Some.ensures.first in
    inr (outside_fails c.args.problem.now.variables c.args.ray.now (λ k j x. faults.RayDomain k j x) c.in-Some.outside first c.number_outside.result
    (c.number_outside.ensures first.variable first.there))
