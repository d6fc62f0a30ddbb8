-- Where reading stops is the line.
use Rattle.std.proofs.Common.{subst}
use Rattle.dcx_cert_lines.specs.Templates.{IsFileStop, IfMisfit}
use Rattle.dcx_cert_lines.proofs.Files.{file_stop}
use Rattle.dcx_cert_lines.proofs.whole.read_outlined.Goals as goal

pub returns-in-Err-Misfit : goal.returns-in-Err-Misfit
returns-in-Err-Misfit c =
    let stop = c.read_all.new.cursor.line in
    file_stop c.args.outline.now c.args.count c.args.bytes.now stop c.requires.few
    (subst (λ e. IfMisfit (IsFileStop c.args.outline.now c.args.count c.args.bytes.now 1 stop) e) c.in-Err-Misfit.field-0-is c.in-Err-Misfit.ensures.misfit)
