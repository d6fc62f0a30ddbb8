-- Each task is done as it is asked.
use Rattle.dcx_top.specs.declared.solving.Task.TheVariants as tasks
use Rattle.dcx_top.proofs.Causes.{task_done}
use Rattle.dcx_top.proofs.solving.do_at.Goals as goal

pub returns-in-Resolve : goal.returns-in-Resolve
returns-in-Resolve g c =
    task_done c.args.accepted.work c.args.limit c.args.settings.now c.args.task
    (tasks.Resolve c.in-Resolve.warm) c.args.steps.now c.solved_at.new.steps c.solved_at.result c.in-Resolve.is c.solved_at.ensures

pub returns-in-Certificate : goal.returns-in-Certificate
returns-in-Certificate g c =
    task_done c.args.accepted.work c.args.limit c.args.settings.now c.args.task tasks.Certificate c.args.steps.now c.certified_at.new.steps c.certified_at.result c.in-Certificate.is
    c.certified_at.ensures

pub returns-in-Filter : goal.returns-in-Filter
returns-in-Filter g c =
    task_done c.args.accepted.work c.args.limit c.args.settings.now c.args.task tasks.Filter c.args.steps.now c.filtered_at.new.steps c.filtered_at.result c.in-Filter.is c.filtered_at.ensures
