-- A multiplier that passes while the constraints are read stops the reading.
use Rattle.std.proofs.Common.{sym, subst}
use Rattle.dcx_lp_answer.specs.Multipliers.{passing_from, StopsAt}
use Rattle.dcx_postsolve.specs.Duals.{all_multipliers}
use Rattle.dcx_graph.specs.Answers.{StopsReading}
use Rattle.dcx_graph.proofs.Stopping.{stops_reading}
use Rattle.dcx_graph.proofs.reading.duals_read.Goals as goal

pub returns-in-Err-clause-stops : goal.returns-in-Err-clause-stops
returns-in-Err-clause-stops c =
    subst (StopsReading c.args.problem.now c.args.answer.now) (sym c.answer_stop.ensures)
    (stops_reading c.args.problem.now c.args.answer.now c.in-Err.stop c.requires.formed
    (subst (λ cs. StopsAt c.in-Err.stop (passing_from 0 (all_multipliers c.args.answer.now.status cs c.args.answer.now.rows))) c.as_slice.ensures (c.in-Err.ensures {u = tt}).stops))
