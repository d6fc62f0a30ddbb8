-- The faults that rise while the settings are read rise behind those of the script; a script that fails ends the run.
use Rattle.std.proofs.Common.{IsTrue}
use Rattle.dcx_host.specs.Faults.{Rose}
use Rattle.dcx_top.specs.Solving.{DoesAt, task_refuses, command_for}
use Rattle.dcx_top.proofs.Rising.{rose_behind}
use Rattle.dcx_top.proofs.Endings.{from_file_moved}
use Rattle.dcx_top.proofs.Causes.{script_ends, done, task_script, task_script_name}
use Rattle.dcx_top.proofs.solving.resolve.Goals as goal

pub returns-in-Ok-clause-causes : goal.returns-in-Ok-clause-causes
returns-in-Ok-clause-causes g c = λ words form.
    let (bytes, there, gives) = c.in-Ok.ensures.reads in
    let old = g.L.Library.faults c.args.library.now in
    let mid = g.L.Library.faults c.read_script.new.library in
    let new = g.L.Library.faults c.do_file.new.library in
    done words (g.L.Library.told c.args.library.now) (Rose old new) c.args.task c.args.script.now c.args.settings.now bytes c.args.limit c.in-Ok.accepted c.args.steps.now c.do_file.new.steps
    c.do_file.result form there gives
    (from_file_moved (IsTrue (task_refuses c.args.task)) c.in-Ok.accepted.work c.args.settings.now
    (DoesAt c.args.task c.in-Ok.accepted.work c.args.limit) c.args.steps.now c.do_file.new.steps c.do_file.result
    (g.L.Library.told c.read_script.new.library) (g.L.Library.told c.args.library.now) (Rose mid new) (Rose old new) c.read_script.ensures.same
    (rose_behind old mid new c.read_script.ensures.never_falls) c.do_file.ensures.run)

pub returns-in-Err-clause-causes : goal.returns-in-Err-clause-causes
returns-in-Err-clause-causes g c = λ words form.
    script_ends words _ _ (command_for c.args.task c.args.script.now c.args.settings.now c.args.limit) form c.args.script.now c.args.steps.now c.in-Err.run'
    (task_script_name c.args.task c.args.script.now c.args.settings.now c.args.limit)
    (λ bytes there. task_script c.args.task c.args.script.now c.args.settings.now c.args.limit (g.L.Library.told c.args.library.now) bytes there) c.in-Err.ensures.reads
