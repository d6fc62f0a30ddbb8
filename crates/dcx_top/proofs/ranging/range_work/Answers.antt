-- The session that was begun is of the problem, and its steps are counted.
use Rattle.std.proofs.Common.{refl, sym}
use Rattle.dcx_top.specs.Solving.{wanting}
use Rattle.dcx_top.proofs.ranging.range_work.Goals as goal

pub returns-in-Ok-clause-run : goal.returns-in-Ok-clause-run
returns-in-Ok-clause-run g c = c.range_session-run.ensures.run c.args.work c.args.steps.now (sym c.in-Ok.ensures.problem) refl c.in-Ok.ensures.counted

pub returns-in-Err-clause-run : goal.returns-in-Err-clause-run
returns-in-Err-clause-run g c = wanting refl c.begin.ensures.few
