-- What is found of an accepted problem is told; a script that isn't had or is refused ends the run.
use Rattle.std.proofs.Common.{refl}
use Rattle.dcx_host.specs.Faults.{Rose}
use Rattle.dcx_words.specs.Commands.{check}
use Rattle.dcx_top.proofs.Causes.{script_ends, checked}
use Rattle.dcx_top.proofs.checking.check.Goals as goal

pub returns-in-Ok-clause-causes : goal.returns-in-Ok-clause-causes
returns-in-Ok-clause-causes g c = λ words steps form.
    let (bytes, there, gives) = c.in-Ok.ensures.reads in
    checked words (g.L.Library.told c.args.library.now) (Rose (g.L.Library.faults c.args.library.now) (g.L.Library.faults c.read_script.new.library)) c.args.script.now bytes c.in-Ok.accepted
    c.checked.result steps form there gives c.checked.ensures

pub returns-in-Err-clause-causes : goal.returns-in-Err-clause-causes
returns-in-Err-clause-causes g c = λ words steps form. script_ends words _ _ (check c.args.script.now) form c.args.script.now steps c.in-Err.run' refl (λ bytes there. there) c.in-Err.ensures.reads
