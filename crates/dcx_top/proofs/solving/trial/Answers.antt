-- The script that is read is the trial's own, and each end of reading it causes its run.
use Rattle.std.proofs.Common.{Ok, sym, subst, ◌∙◌}
use Rattle.dcx_host.specs.Faults.{Rose}
use Rattle.dcx_words.specs.Commands.{trial}
use Rattle.dcx_front.specs.Accepts.{Gives}
use Rattle.dcx_top.specs.Runs.{Causes}
use Rattle.dcx_top.proofs.Causes.{made_ends, tried}
use Rattle.dcx_top.proofs.solving.trial.Goals as goal

pub returns-in-Ok-accept : goal.returns-in-Ok-accept
returns-in-Ok-accept g c = λ words told before now form.
    tried words told (Rose before now) c.args.size c.args.limit c.in-Ok-accept.accepted c.args.steps.now c.solve_trial.new.steps c.solve_trial.result form
    (subst (λ b. Gives b (Ok c.in-Ok-accept.accepted)) (c.as_slice.ensures ∙ c.in-Ok.ensures) c.in-Ok-accept.ensures.gives) c.solve_trial.ensures

pub returns : goal.returns
returns g c = λ words told before now form.
    subst (Causes words told (Rose before now) c.args.steps.now c.args.steps.now) (sym c.ended.ensures)
    (made_ends words told (Rose before now) (trial c.args.size c.args.limit) form _ c.args.steps.now c.in-Err.fault (c.as_slice.ensures ∙ c.in-Ok.ensures) c.in-Err.ensures.gives)
