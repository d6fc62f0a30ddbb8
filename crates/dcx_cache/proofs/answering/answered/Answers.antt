-- The rows that are lent are those of the program: what is made of them is its scaled program, and what stops that stops the setting.
use Rattle.std.proofs.Common.{sym, ap, ◌∙◌, subst}
use Rattle.dcx_std.specs.IntegerRows.{IsMade, IsStopOf}
use Rattle.dcx_lp_solve.specs.Stops.{run_stop}
use Rattle.dcx_graph.proofs.Mapped.{given_rows, known_of}
use Rattle.dcx_cache.specs.Answers.{Stops}
use Rattle.dcx_cache.proofs.Stopped.{rows_stops}
use Rattle.dcx_cache.proofs.answering.answered.Goals as goal

pub answered_scaled-requires-clause-scaled : goal.answered_scaled-requires-clause-scaled
answered_scaled-requires-clause-scaled c =
    let q = c.args.reduced.program in
    let kinds = c.rows.result.now.kinds in
    let rows = c.rows.result.now.rows in
    let objective = c.rows.result.now.objective in
    let same = given_rows q kinds rows objective c.rows.ensures.kinds c.rows.ensures.rows c.rows.ensures.objective in
    record {
      fits = c.requires.fits;
      gives = c.requires.program;
      known = known_of q kinds rows objective c.rows.ensures.kinds c.rows.ensures.rows c.rows.ensures.objective c.rows.result.now.rows_known c.rows.result.now.objective_known;
      made = subst (λ r. IsMade r c.in-Ok.program) same (c.in-Ok.ensures {u = tt}).made;
    }

pub returns-in-Err-clause-stops : goal.returns-in-Err-clause-stops
returns-in-Err-clause-stops c =
    let p = c.args.problem.now in
    let s = c.args.setting.now in
    let q = c.args.reduced.program in
    let kinds = c.rows.result.now.kinds in
    let rows = c.rows.result.now.rows in
    let objective = c.rows.result.now.objective in
    let same = given_rows q kinds rows objective c.rows.ensures.kinds c.rows.ensures.rows c.rows.ensures.objective in
    let is = subst (λ r. IsStopOf r c.in-Err.stop) same (c.in-Err.ensures {u = tt}).stops in
    subst (Stops p s c.args.limit) (sym (c.run_stop.ensures ∙ ap run_stop c.rows_stop.ensures)) (rows_stops p s c.args.limit c.requires.fits q c.requires.program c.in-Err.stop is)
