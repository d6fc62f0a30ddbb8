-- A task that refuses marked variables refuses first; else the lines of the settings file are done.
use Rattle.std.proofs.Common.{IsTrue, refl, inr}
use Rattle.dcx_settings.proofs.Full.{items_full_in}
use Rattle.dcx_top.specs.Solving.{DoesAt, task_refuses}
use Rattle.dcx_top.proofs.Endings.{lines_done}
use Rattle.dcx_top.proofs.solving.do_file.Goals as goal

pub returns-in-Some-clause-run : goal.returns-in-Some-clause-run
returns-in-Some-clause-run g c = inr (c.in-Some.ensures.0, (c.in-Some.refusal, c.in-Some.ensures.1, refl, refl))

pub do_lines-requires-clause-full : goal.do_lines-requires-clause-full
do_lines-requires-clause-full g c = let (bytes, there, spelled) = c.in-Ok.ensures.reads in items_full_in bytes c.in-Ok.lines spelled

pub returns-in-Ok-clause-run : goal.returns-in-Ok-clause-run
returns-in-Ok-clause-run g c =
    let (bytes, there, spelled) = c.in-Ok.ensures.reads in
    lines_done (IsTrue (task_refuses c.args.task)) c.args.accepted.work c.args.settings.now
    (DoesAt c.args.task c.args.accepted.work c.args.limit) c.args.steps.now c.do_lines.new.steps c.do_lines.result _ _ bytes c.in-Ok.lines c.in_default.ensures
    there spelled c.do_lines.ensures
