-- What stops the program stops the setting.
use Rattle.dcx_cache.proofs.Stopped.{setting_stops}
use Rattle.dcx_cache.proofs.answering.solved.Goals as goal

pub returns-in-Err-clause-stops : goal.returns-in-Err-clause-stops
returns-in-Err-clause-stops g c = setting_stops c.args.problem.now c.args.setting.now c.args.limit c.in-Err.stop (c.in-Err.ensures {u = tt}).stops
