-- The faults that rise while the settings are read rise behind those of the script; a script that fails ends the run.
use Rattle.std.proofs.Common.{refl}
use Rattle.dcx_host.specs.Faults.{Rose}
use Rattle.dcx_words.specs.Commands.{range}
use Rattle.dcx_top.proofs.Rising.{rose_behind}
use Rattle.dcx_top.proofs.Endings.{ranges_moved}
use Rattle.dcx_top.proofs.Causes.{script_ends, ranged}
use Rattle.dcx_top.proofs.ranging.range.Goals as goal

pub returns-in-Ok-clause-causes : goal.returns-in-Ok-clause-causes
returns-in-Ok-clause-causes g c = λ words form.
    let (bytes, there, gives) = c.in-Ok.ensures.reads in
    let old = g.L.Library.faults c.args.library.now in
    let mid = g.L.Library.faults c.read_script.new.library in
    let new = g.L.Library.faults c.range_file.new.library in
    ranged words (g.L.Library.told c.args.library.now) (Rose old new) c.args.script.now c.args.settings.now c.args.parameter.now bytes c.args.limit c.in-Ok.accepted c.args.steps.now
    c.range_file.new.steps c.range_file.result form there gives
    (ranges_moved c.in-Ok.accepted.work c.args.settings.now c.args.parameter.now c.args.limit c.args.steps.now c.range_file.new.steps c.range_file.result (g.L.Library.told c.read_script.new.library)
    (g.L.Library.told c.args.library.now) (Rose mid new) (Rose old new) c.read_script.ensures.same (rose_behind old mid new c.read_script.ensures.never_falls) c.range_file.ensures.run)

pub returns-in-Err-clause-causes : goal.returns-in-Err-clause-causes
returns-in-Err-clause-causes g c = λ words form.
    script_ends words _ _ (range c.args.script.now c.args.settings.now c.args.parameter.now c.args.limit) form c.args.script.now c.args.steps.now c.in-Err.run' refl
    (λ bytes there. there) c.in-Err.ensures.reads
