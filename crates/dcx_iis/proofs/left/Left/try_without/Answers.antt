-- The constraint stays where a point keeps those beside it, and else it is left out.
use Rattle.std.proofs.Common.{◌≡◌, ◌+◌, false, Bool, List, set, refl, subst}
use Rattle.std.proofs.lemmas.Result.{err_from_is_err_and}
use Rattle.dcx_iis.specs.declared.trying.Tried.{Tried}
use Rattle.dcx_iis.specs.Steps.{flagged}
use Rattle.dcx_iis.specs.Runs.{IsTried, StopsTry}
use Rattle.dcx_iis.proofs.Going.{try_stops, left_with, left_without}
use Rattle.dcx_iis.proofs.left.Left.try_without.Goals as goal
use Rattle.dcx_iis.proofs.left.Left.try_without.Goals.{In_ok-point}

-- what the step shows
step_tried : (c : In_ok-point) (t : Tried) → c.in_ok-point.field-0 ≡ t
    → IsTried c.args.problem.now c.args.reduced.now.program c.args.limit (flagged (set c.args.self.now.kept.items c.args.constraint false)) t
step_tried c t is =
    subst (IsTried c.args.problem.now c.args.reduced.now.program c.args.limit (flagged (set c.args.self.now.kept.items c.args.constraint false))) is
    (subst (λ (flags : List Bool). IsTried c.args.problem.now c.args.reduced.now.program c.args.limit (flagged flags) c.in_ok-point.field-0) c.deref.ensures.value c.in_ok-point.ensures.tried)

pub returns-in_err-point-clause-stops : goal.returns-in_err-point-clause-stops
returns-in_err-point-clause-stops c =
    let r = err_from_is_err_and c.from_residual.result c.from_residual.ensures.1 in
    let p = c.args.problem.now in
    let q = c.args.reduced.now.program in
    let i = c.args.constraint in
    rw (r.1, r.2) (try_stops p q c.args.limit i c.args.self.now c.requires.left c.requires.there c.in_err-point.field-0.0
    (subst (λ (flags : List Bool). StopsTry p q c.args.limit (flagged flags) (i + 1) c.in_err-point.field-0.0) c.deref.ensures.value c.in_err-point.ensures.stops))

pub returns-in_ok-push-in-Possible-clause-left : goal.returns-in_ok-push-in-Possible-clause-left
returns-in_ok-push-in-Possible-clause-left c =
    let p = c.args.problem.now in
    let q = c.args.reduced.now.program in
    let i = c.args.constraint in
    let l = c.args.self.now in
    left_with p q c.args.limit i l c.requires.left c.requires.there c.in-Possible.point _
    (step_tried (goal.at.returns-in_ok-push-in-Possible-clause-left c).In_ok-point _ c.in-Possible.is) refl refl refl c.in_ok-push-in-Possible.ensures.items

pub returns-in-Impossible-clause-left : goal.returns-in-Impossible-clause-left
returns-in-Impossible-clause-left c =
    let p = c.args.problem.now in
    let q = c.args.reduced.now.program in
    let i = c.args.constraint in
    let l = c.args.self.now in
    left_without p q c.args.limit i l c.requires.left c.requires.there c.in-Impossible.answer _
    (step_tried (goal.at.returns-in-Impossible-clause-left c).In_ok-point _ c.in-Impossible.is) refl c.replace.ensures.after refl refl
