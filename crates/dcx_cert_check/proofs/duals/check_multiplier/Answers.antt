-- The test is exact.
use Rattle.std.proofs.Common.{◌≡◌, ◌⊎◌, sym, subst}
use Rattle.dcx_frac.specs.Frac.{value}
use Rattle.dcx_answer.specs.declared.cert_fault.CertFault.TheVariants as faults
use Rattle.dcx_cert_check.specs.SingleChecks.{multiplier_signed}
use Rattle.dcx_cert_check.proofs.Demands.{multiplier_fails}
use Rattle.dcx_cert_check.proofs.duals.check_multiplier.Goals as goal

pub returns : goal.returns
returns c =
    subst (λ kind. (faults.DualSign c.args.number c.args.entry c.args.multiplier ≡ faults.Memory)
    ⊎ (multiplier_signed kind c.args.number c.args.entry (value c.args.multiplier)).fails (faults.DualSign c.args.number c.args.entry c.args.multiplier))
    (sym c.in-AtMost.is)
    (multiplier_fails c.is_at_most.result c.args.number c.args.entry c.zero.result c.args.multiplier c.zero.ensures c.is_at_most.ensures c.if-is_at_most.false)
