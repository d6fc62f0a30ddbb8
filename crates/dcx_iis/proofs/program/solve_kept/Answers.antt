-- The program that is solved is that of the set.
use Rattle.std.proofs.Common.{IfOk, IfErr, subst}
use Rattle.std.proofs.lemmas.Result.{IfOk-weaker}
use Rattle.dcx_std.specs.Solutions.{HasKinds}
use Rattle.dcx_lp_solve.specs.Solved.{IsSolved, Stops}
use Rattle.dcx_iis.specs.Steps.{flagged, program_of_set}
use Rattle.dcx_iis.proofs.Given.{known_given}
use Rattle.dcx_iis.proofs.program.solve_kept.Goals as goal

pub returns-clause-solved : goal.returns-clause-solved
returns-clause-solved c = subst (λ g. IfOk c.solve_rows-solved.result (IsSolved c.args.limit g)) c.in_ok-program.ensures c.solve_rows-solved.ensures.solved

pub returns-clause-known : goal.returns-clause-known
returns-clause-known c =
    let r = c.in_ok-program.program in
    let g = program_of_set c.args.problem.now c.args.reduced.now.program (flagged c.args.kept.now) in
    IfOk-weaker c.solve_rows-solved.result (IsSolved c.args.limit g) (λ s. HasKinds g) (λ s h. known_given r.kinds r.rows r.objective g r.rows_known r.objective_known c.in_ok-program.ensures)
    (returns-clause-solved c)

pub returns-clause-stops : goal.returns-clause-stops
returns-clause-stops c = subst (λ g. IfErr c.solve_rows-solved.result (Stops c.args.limit g)) c.in_ok-program.ensures c.solve_rows-solved.ensures.stops
