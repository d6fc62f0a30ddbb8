-- What stops the program stops the setting, whatever is kept.
use Rattle.std.proofs.Common.{option_copied}
use Rattle.dcx_cache.proofs.Stopped.{setting_stops}
use Rattle.dcx_cache.proofs.WarmRuns.{never_formed, at_last}
use Rattle.dcx_cache.proofs.rewarming.resolved.Goals as goal

pub returns-in-Err-clause-never : goal.returns-in-Err-clause-never
returns-in-Err-clause-never g c = never_formed c.args.problem.now c.args.setting.now c.args.limit (option_copied c.args.columns) c.in-Err.stop (c.in-Err.ensures {u = tt}).stops

pub returns-in-Err-clause-stops : goal.returns-in-Err-clause-stops
returns-in-Err-clause-stops g c = setting_stops c.args.problem.now c.args.setting.now c.args.limit c.in-Err.stop (c.in-Err.ensures {u = tt}).stops

pub returns-in-Ok-clause-answer : goal.returns-in-Ok-clause-answer
returns-in-Ok-clause-answer g c =
    at_last c.args.problem.now c.args.setting.now c.args.limit (option_copied c.args.columns) c.in-Ok.reduced c.from_rows.result c.from_rows.ensures.same c.from_rows.ensures.answer
