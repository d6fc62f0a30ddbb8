-- A multiplier of what is left passes.
use Rattle.std.proofs.Common.{List, Bool, subst}
use Rattle.dcx_lp_answer.specs.declared.stop.MultiplierStop.TheVariants as multipliers
use Rattle.dcx_lp_answer.specs.Multipliers.{passing_from, StopsAt}
use Rattle.dcx_tree.specs.declared.constraint.Constraint.{Constraint}
use Rattle.dcx_postsolve.specs.Duals.{all_multipliers}
use Rattle.dcx_iis.specs.Steps.{flagged, kept_of}
use Rattle.dcx_iis.proofs.Going.{forming_stops}
use Rattle.dcx_iis.proofs.filtering.duals_left.Goals as goal

pub returns-in-Err-Wide-clause-stops : goal.returns-in-Err-Wide-clause-stops
returns-in-Err-Wide-clause-stops c = λ q limit is.
    let l = c.args.left.now in
    let stop = multipliers.Wide c.in-Err-Wide.row c.in-Err-Wide.passes in
    let formed = λ (flags : List Bool) (cs : List Constraint). passing_from 0 (all_multipliers l.answer.status (kept_of (flagged flags) cs) l.answer.rows) in
    let at = rw c.in-Err-Wide.field-0-is at c.in-Err-Wide.ensures.stops in
    forming_stops c.args.problem.now q limit l is stop
    (subst (λ (cs : List Constraint). StopsAt stop (formed l.kept.items cs)) c.as_slice.ensures
    (subst (λ (flags : List Bool). StopsAt stop (formed flags c.as_slice.result.now)) c.deref.ensures.value at))
