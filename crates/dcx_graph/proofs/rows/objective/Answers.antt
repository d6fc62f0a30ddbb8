-- Where what is to be small can't be formed, the row of the objective stops.
use Rattle.std.proofs.Common.{Err, subst}
use Rattle.dcx_linear.specs.Stops.{OnPass}
use Rattle.dcx_entries.specs.Standing.{all_forms}
use Rattle.dcx_graph.specs.Program.{Least, Objective}
use Rattle.dcx_graph.proofs.Told.{stops_row}
use Rattle.dcx_graph.proofs.rows.objective.Goals as goal

pub returns-in-Err : goal.returns-in-Err
returns-in-Err g c =
    let t = g.C.Coef in
    stops_row c.args.number (Objective t.of_number t.number_of t.sum_gives t.change_gives c.args.problem.now (all_forms t.of_number c.args.standing.now)) c.in-Err.stop c.stop_at_row.result
    c.stop_at_row.ensures
    (subst (λ f. OnPass c.in-Err.stop (λ passes. Least t.number_of t.change_gives c.args.problem.now.sense f (Err passes))) c.node_entry-entry.ensures c.in-Err.ensures)
