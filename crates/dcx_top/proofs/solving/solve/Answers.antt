-- The settings of the script's solves are answered; a script that fails ends the run.
use Rattle.std.proofs.Common.{refl}
use Rattle.dcx_words.specs.Commands.{solve}
use Rattle.dcx_top.proofs.Causes.{script_ends, solved}
use Rattle.dcx_top.proofs.solving.solve.Goals as goal

pub returns-in-Ok-clause-causes : goal.returns-in-Ok-clause-causes
returns-in-Ok-clause-causes g c = λ words form.
    let (bytes, there, gives) = c.in-Ok.ensures.reads in
    solved words _ _ c.args.script.now bytes c.args.limit c.in-Ok.accepted c.args.steps.now c.solve_events.new.steps c.solve_events.result form there gives c.solve_events.ensures

pub returns-in-Err-clause-causes : goal.returns-in-Err-clause-causes
returns-in-Err-clause-causes g c = λ words form.
    script_ends words _ _ (solve c.args.script.now c.args.limit) form c.args.script.now c.args.steps.now c.in-Err.run' refl (λ bytes there. there) c.in-Err.ensures.reads
