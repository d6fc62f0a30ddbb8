-- What solves the scaled program solves the rows, and each stop is one of the setting.
use Rattle.std.proofs.Common.{sym, subst}
use Rattle.dcx_cache.specs.Answers.{Stops}
use Rattle.dcx_cache.proofs.Answered.{is_answered}
use Rattle.dcx_cache.proofs.ScaledRows.{rows_solved, answers, scaled_stops, scaled_reading_stops}
use Rattle.dcx_cache.proofs.scaled.answered_scaled.Goals as goal

pub returns-in-Err-clause-stops : goal.returns-in-Err-clause-stops
returns-in-Err-clause-stops c =
    let p = c.args.problem.now in
    let s = c.args.setting.now in
    subst (Stops p s c.args.limit) (sym c.run_stop.ensures) (scaled_stops p s c.args.limit c.args.reduced.program c.args.program c.requires.scaled c.in-Err.stop c.in-Err.ensures.stops)

pub map_back-requires : goal.map_back-requires
map_back-requires c =
    let p = c.args.problem.now in
    let s = c.args.setting.now in
    let q = c.args.reduced.program in
    let at = c.requires.scaled in
    let is = rows_solved p s c.args.limit q c.args.program at c.in-Ok.solved c.in-Ok.ensures.solved in
    record { answered = is_answered p s c.requires.accepted at.fits c.args.limit q c.in-Ok.solved at.gives is }

pub returns-in-Ok-map_back-clause-answer : goal.returns-in-Ok-map_back-clause-answer
returns-in-Ok-map_back-clause-answer c =
    answers c.args.problem.now c.args.setting.now c.args.limit c.args.reduced.program c.args.program c.requires.scaled c.in-Ok.solved c.in-Ok-map_back.answer c.in-Ok.ensures.solved
    c.in-Ok-map_back.ensures.read

pub returns-in-Err-map_back-clause-stops : goal.returns-in-Err-map_back-clause-stops
returns-in-Err-map_back-clause-stops c =
    let p = c.args.problem.now in
    let s = c.args.setting.now in
    subst (Stops p s c.args.limit) (sym c.reading_stop.ensures)
    (scaled_reading_stops p s c.args.limit c.args.reduced.program c.args.program c.requires.scaled c.in-Ok.solved c.in-Ok.ensures.solved c.in-Err-map_back.stop c.in-Err-map_back.ensures.stops)
