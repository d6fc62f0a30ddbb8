-- What the step's program tells.
use Rattle.std.proofs.Common.{sym, subst}
use Rattle.dcx_iis.specs.Steps.{flagged, IsStep}
use Rattle.dcx_iis.specs.Runs.{StopsTry}
use Rattle.dcx_iis.proofs.Shown.{columns_told}
use Rattle.dcx_iis.proofs.Going.{stops_try}
use Rattle.dcx_iis.proofs.trying.try_kept.Goals as goal

pub shown-requires : goal.shown-requires
shown-requires c =
    let p = c.args.problem.now in
    let q = c.args.reduced.now.program in
    let set = flagged c.args.kept.now in
    let step : IsStep p q c.args.limit set c.in-Ok.solved = record { known = c.in-Ok.ensures.known; is_solved = c.in-Ok.ensures.solved } in
    record { told = columns_told p q c.args.limit set c.in-Ok.solved step }

pub returns-in_ok-shown-in-Ok-clause-tried : goal.returns-in_ok-shown-in-Ok-clause-tried
returns-in_ok-shown-in-Ok-clause-tried c = (c.in-Ok.solved, record { known = c.in-Ok.ensures.known; is_solved = c.in-Ok.ensures.solved }, c.in_ok-shown-in-Ok.ensures)

pub returns-in-Err-clause-stops : goal.returns-in-Err-clause-stops
returns-in-Err-clause-stops c =
    let p = c.args.problem.now in
    let q = c.args.reduced.now.program in
    let set = flagged c.args.kept.now in
    subst (StopsTry p q c.args.limit set c.args.step) (sym c.step_stop.ensures) (stops_try p q c.args.limit set c.args.step c.in-Err.stop c.in-Err.ensures.stops)
