-- The node at which the loop stops is the first one without a curvature.
use Rattle.std.proofs.Common.{◌<◌, length, arith, refl, sym, ◌∙◌}
use Rattle.dcx_rules.proofs.Breaches.{lost_at}
use Rattle.dcx_rules.proofs.checking.findings.Goals as goal

pub returns-in-None-clause-err : goal.returns-in-None-clause-err
returns-in-None-clause-err c =
    let lt : c.loop-i.i < length c.args.judgements.now = omega arith in
    (lost_at c.args.judgements.now c.loop-i.i _ c.loop-i.findings.items lt (sym c.curvature_of.ensures ∙ c.in-None.is) c.loop-i.invariant, refl)
