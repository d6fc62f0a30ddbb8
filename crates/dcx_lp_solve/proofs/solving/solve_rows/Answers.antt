-- What solves the program solves the rows. A stop of the run, or of making the program, is a stop of the rows.
use Rattle.std.proofs.Common.{sym, subst}
use Rattle.std.proofs.lemmas.Result.{IfOk-weaker}
use Rattle.dcx_std.specs.GivenRows.{given}
use Rattle.dcx_lp_solve.specs.Solved.{IsRunSolved, IsSolved, Stops}
use Rattle.dcx_lp_solve.proofs.Ends.{run_solves, result_stops, row_stops}
use Rattle.dcx_lp_solve.proofs.solving.solve_rows.Goals as goal

pub returns-in-Ok-clause-solved : goal.returns-in-Ok-clause-solved
returns-in-Ok-clause-solved c =
    let rows = given c.args.rows.now.kinds c.args.rows.now.rows c.args.rows.now.objective in
    let program = c.in-Ok.program in
    IfOk-weaker c.solve_program.result (IsRunSolved c.args.limit program) (IsSolved c.args.limit rows) (run_solves c.args.limit rows program (c.in-Ok.ensures {u = tt}).made)
    c.solve_program.ensures.solved

pub returns-in-Ok-clause-stops : goal.returns-in-Ok-clause-stops
returns-in-Ok-clause-stops c =
    let rows = given c.args.rows.now.kinds c.args.rows.now.rows c.args.rows.now.objective in
    result_stops c.args.limit rows c.in-Ok.program (c.in-Ok.ensures {u = tt}).made c.solve_program.result c.solve_program.ensures.stops

pub returns-in-Err-clause-stops : goal.returns-in-Err-clause-stops
returns-in-Err-clause-stops c =
    let rows = given c.args.rows.now.kinds c.args.rows.now.rows c.args.rows.now.objective in
    subst (Stops c.args.limit rows) (sym c.rows_stop.ensures) (row_stops c.args.limit rows c.in-Err.stop (c.in-Err.ensures {u = tt}).stops)
