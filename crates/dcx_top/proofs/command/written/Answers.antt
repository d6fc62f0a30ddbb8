-- A report that is written whole ends with the status of its run, and one that is cut short by a fault of the sink with the status of that fault.
use Rattle.std.proofs.Common.{Err, inr, refl, ap, rules}
use Rattle.dcx_top.proofs.Writing.{failed_cut, ends_whole, ends_early}
use Rattle.dcx_top.proofs.command.written.Goals as goal

pub returns-in-Ok-clause-reports : goal.returns-in-Ok-clause-reports
returns-in-Ok-clause-reports g c = ends_whole _ _ _ _ _ _ _ _ c.requires (search rules) c.in-Ok.ensures.ok

pub returns-in-Err-Failed-clause-reports : goal.returns-in-Err-Failed-clause-reports
returns-in-Err-Failed-clause-reports g c =
    ends_early _ _ _ _ _ _ _ _ c.requires
    (failed_cut _ (record { status = c.failed_status.result; run = c.args.run }) (c.in-Err-Failed.ensures.failed (ap Err c.in-Err-Failed.field-0-is)) c.failed_status.ensures)
    c.in-Err-Failed.ensures.err

pub returns-in-Err-Memory-clause-reports : goal.returns-in-Err-Memory-clause-reports
returns-in-Err-Memory-clause-reports g c = ends_early _ _ _ _ _ _ _ _ c.requires (inr refl) c.in-Err-Memory.ensures.err
