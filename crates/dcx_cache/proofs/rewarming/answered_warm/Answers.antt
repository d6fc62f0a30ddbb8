-- What is read back from the end of the warm run is the answer, and there is none where it gives nothing.
use Rattle.std.proofs.Common.{subst}
use Rattle.dcx_lp_solve.specs.Warm.{RunsWarm}
use Rattle.dcx_cache.proofs.WarmRuns.{end_is_answered, never_ends, reads_result}
use Rattle.dcx_cache.proofs.rewarming.answered_warm.Goals as goal

pub read_back-requires : goal.read_back-requires
read_back-requires c =
    let program = c.args.program.now in
    let run = subst (RunsWarm c.args.limit c.args.columns.now program) c.in-Ok-Some.field-0-is (c.in-Ok-Some.ensures {u = tt}).runs in
    end_is_answered c.args.problem.now c.args.setting.now c.args.limit c.args.columns.now c.args.reduced.now.program program c.in-Ok-Some.end c.requires.accepted c.requires.scaled run

pub returns-in-Ok-Some : goal.returns-in-Ok-Some
returns-in-Ok-Some c =
    let program = c.args.program.now in
    let run = subst (RunsWarm c.args.limit c.args.columns.now program) c.in-Ok-Some.field-0-is (c.in-Ok-Some.ensures {u = tt}).runs in
    reads_result c.args.problem.now c.args.setting.now c.args.limit c.args.columns.now c.args.reduced.now.program program c.in-Ok-Some.end c.requires.mapped c.requires.scaled run c.read_back.result
    c.read_back.ensures

pub returns-in-Ok-None : goal.returns-in-Ok-None
returns-in-Ok-None c =
    let program = c.args.program.now in
    let none = subst (RunsWarm c.args.limit c.args.columns.now program) c.in-Ok-None.field-0-is (c.in-Ok-None.ensures {u = tt}).runs in
    never_ends c.args.problem.now c.args.setting.now c.args.limit c.args.columns.now c.args.reduced.now.program program c.requires.scaled none
