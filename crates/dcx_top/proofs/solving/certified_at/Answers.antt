-- The certificate that is written is that of the problem at its settings.
use Rattle.dcx_top.proofs.Causes.{certificate_at}
use Rattle.dcx_top.proofs.solving.certified_at.Goals as goal

pub returns-in-Ok : goal.returns-in-Ok
returns-in-Ok g c =
    certificate_at c.args.problem c.args.limit c.args.settings.now c.in-Ok.found.certificate c.in-Ok.found.stopped c.args.steps.now c.certificate.new.steps c.written.result
    c.in-Ok.ensures.certificate c.in-Ok.ensures.stopped
    c.in-Ok.ensures.mapped c.in-Ok.ensures.anew c.written.ensures
