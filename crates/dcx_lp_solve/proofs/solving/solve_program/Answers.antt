-- The run starts from the tableau of the program: so its end is one that is read, or the stop of the program.
use Rattle.std.proofs.Common.{refl, subst}
use Rattle.std.proofs.lemmas.Result.{IfOk-weaker}
use Rattle.dcx_chained.specs.Tables.{table_of}
use Rattle.dcx_lp_answer.specs.Right.{IsRight}
use Rattle.dcx_simplex.specs.Whole.{RunEnds}
use Rattle.dcx_simplex.specs.declared.run.LpEnd.TheVariants as ends
use Rattle.dcx_lp_solve.specs.Solved.{IsRunSolved, RunStops}
use Rattle.dcx_lp_solve.proofs.Ends.{memory_stops, finished, read_solved}
use Rattle.dcx_lp_solve.proofs.Right.{run_right}
use Rattle.dcx_lp_solve.proofs.solving.solve_program.Goals as goal

pub read-requires : goal.read-requires
read-requires c =
    let u = table_of c.solve-end.new.tableau in
    finished c.args.limit c.args.program u c.solve-end.result c.in-Optimal.is (subst (λ t. RunEnds c.args.limit t u c.solve-end.result) (c.in-Ok.ensures {u = tt}) c.solve-end.ensures.run)

pub returns-in-Optimal : goal.returns-in-Optimal
returns-in-Optimal c =
    let u = table_of c.solve-end.new.tableau in
    let solved = read_solved c.args.limit c.args.program c.solve-end.new.tableau c.solve-end.result
    (subst (λ t. RunEnds c.args.limit t u c.solve-end.result) (c.in-Ok.ensures {u = tt}) c.solve-end.ensures.run)
    c.read.result c.read.ensures.program c.read.ensures.tableau c.read.ensures.read in
    record {
      solved = solved;
      right = IfOk-weaker c.read.result (IsRunSolved c.args.limit c.args.program) (λ s. IsRight s.program s.answer) (run_right c.args.limit c.args.program) solved;
      stops = memory_stops (RunStops c.args.limit c.args.program) tt c.read.result c.read.ensures.stops;
    }

pub returns-in-Wide-clause-stops : goal.returns-in-Wide-clause-stops
returns-in-Wide-clause-stops c =
    let u = table_of c.solve-end.new.tableau in
    let end = ends.Wide c.in-Wide.pivots c.in-Wide.row c.in-Wide.column in
    record { last = u; run = subst (λ t. RunEnds c.args.limit t u end) (c.in-Ok.ensures {u = tt}) c.in-Wide.ensures.run }

pub returns-in-PivotLimit-clause-stops : goal.returns-in-PivotLimit-clause-stops
returns-in-PivotLimit-clause-stops c =
    let u = table_of c.solve-end.new.tableau in
    let end = ends.PivotLimit c.in-PivotLimit.count in
    (c.in-PivotLimit.ensures.count c.in-PivotLimit.count refl, record { last = u; run = subst (λ t. RunEnds c.args.limit t u end) (c.in-Ok.ensures {u = tt}) c.in-PivotLimit.ensures.run })
