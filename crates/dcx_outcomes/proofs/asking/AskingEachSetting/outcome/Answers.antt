-- The outcome tells the answer, or what stops the program.
use Rattle.std.proofs.Common.{◌≡◌, Option, Result, Ok, Err, sym, ap, ◌∙◌, subst}
use Rattle.std.specs.Prelude.{is_some, IfOk, IfErr, OnOk}
use Rattle.dcx_shape.specs.declared.place.Place.{Place}
use Rattle.dcx_frac.specs.declared.fraction.Frac.{Frac}
use Rattle.dcx_tree.specs.declared.problem.Problem.{Problem}
use Rattle.dcx_fit.specs.Fit.{FitsParameters}
use Rattle.dcx_answer.specs.declared.stop.Stop.{Stop}
use Rattle.dcx_graph.specs.Reduced.{Reduction}
use Rattle.dcx_cache.specs.Programs.{SessionGives, IsProgramAt, ProgramStops}
use Rattle.dcx_outcomes.specs.Outcomes.{NamesNodes, stop_place}
use Rattle.dcx_outcomes.specs.Asking.{IsAnswered}
use Rattle.dcx_outcomes.proofs.Named.{program_names}
use Rattle.dcx_outcomes.proofs.Placed.{placed}
use Rattle.dcx_outcomes.proofs.Asked.{outcome_of}
use Rattle.dcx_outcomes.proofs.asking.AskingEachSetting.outcome.Goals as goal

-- ---- the program is asked
pub answer-found-requires-clause-can : goal.answer-found-requires-clause-can
answer-found-requires-clause-can g c = subst (g.Q.Question.can_ask c.args.self.now.question.now) (sym c.program.ensures.same.0) c.requires

pub answer-found-requires-clause-fits : goal.answer-found-requires-clause-fits
answer-found-requires-clause-fits g c =
    let fits = subst (λ (r : Result (Reduction Frac) Stop). OnOk r (FitsParameters c.args.session.now.problem.parameters c.args.setting.now)) c.in-Ok.is c.program.ensures.fits in
    subst (λ (z : Problem). FitsParameters z.parameters c.args.setting.now) (sym c.program.ensures.same.0) fits

pub answer-found-requires-clause-given : goal.answer-found-requires-clause-given
answer-found-requires-clause-given g c =
    let gives = subst (λ (r : Result (Reduction Frac) Stop). IfOk r (λ q. SessionGives c.args.session.now.problem c.args.setting.now (Ok q.program))) c.in-Ok.is c.program.ensures.gives in
    subst (λ (z : Problem). SessionGives z c.args.setting.now (Ok c.in-Ok.program.program)) (sym c.program.ensures.same.0) gives

pub answer-found-requires-clause-program : goal.answer-found-requires-clause-program
answer-found-requires-clause-program g c =
    let reduced = subst (λ (r : Result (Reduction Frac) Stop). IfOk r (λ q. IsProgramAt c.args.session.now.problem c.args.setting.now q.program)) c.in-Ok.is c.program.ensures.reduced in
    subst (λ (z : Problem). IsProgramAt z c.args.setting.now c.in-Ok.program.program) (sym c.program.ensures.same.0) reduced

pub returns-in-Ok-clause-end : goal.returns-in-Ok-clause-end
returns-in-Ok-clause-end g c =
    let asked = g.Q.Question in
    outcome_of (asked.gives c.args.self.now.question.now) asked.tells asked.told_place c.args.session.now.problem c.args.setting.now (Ok c.answer-found.result) c.answered.result
    (subst (λ (z : Problem). IsAnswered (asked.gives c.args.self.now.question.now) z c.args.setting.now c.answer-found.result) c.program.ensures.same.0 c.answer-found.ensures) c.answered.ensures.end
    c.answered.ensures.place

-- ---- or it is stopped
pub stop_place-place-requires : goal.stop_place-place-requires
stop_place-place-requires g c =
    let p = c.args.session.now.problem in
    let s = c.args.setting.now in
    let stops = subst (λ (r : Result (Reduction Frac) Stop). IfErr r (ProgramStops p s)) c.in-Err.is c.program.ensures.stops in
    subst (λ (z : Problem). NamesNodes z c.in-Err.stop) (sym (c.problem.ensures.problem ∙ c.program.ensures.same.0)) (program_names p s c.in-Err.stop stops)

pub stopped-requires : goal.stopped-requires
stopped-requires g c =
    let p = c.args.session.now.problem in
    let s = c.args.setting.now in
    let stops = subst (λ (r : Result (Reduction Frac) Stop). IfErr r (ProgramStops p s)) c.in-Err.is c.program.ensures.stops in
    let place : c.stop_place-place.result ≡ stop_place p c.in-Err.stop = c.stop_place-place.ensures
    ∙ ap (λ (z : Problem). stop_place z c.in-Err.stop) (c.problem.ensures.problem ∙ c.program.ensures.same.0) in
    ap (λ (o : Option Place). is_some o) place ∙ placed p c.in-Err.stop (program_names p s c.in-Err.stop stops)

pub returns-in-Err-clause-end : goal.returns-in-Err-clause-end
returns-in-Err-clause-end g c =
    let asked = g.Q.Question in
    let p = c.args.session.now.problem in
    let s = c.args.setting.now in
    let stops = subst (λ (r : Result (Reduction Frac) Stop). IfErr r (ProgramStops p s)) c.in-Err.is c.program.ensures.stops in
    let place : c.stop_place-place.result ≡ stop_place p c.in-Err.stop = c.stop_place-place.ensures
    ∙ ap (λ (z : Problem). stop_place z c.in-Err.stop) (c.problem.ensures.problem ∙ c.program.ensures.same.0) in
    outcome_of (asked.gives c.args.self.now.question.now) asked.tells asked.told_place p s (Err c.in-Err.stop) c.stopped.result stops c.stopped.ensures.end (c.stopped.ensures.place ∙ place)
