-- The section of the answer, or of what stops the setting.
use Rattle.std.proofs.Common.{IfOk, subst}
use Rattle.dcx_tree.specs.declared.problem.Problem.{Problem}
use Rattle.dcx_cert_runs.specs.Sections.{IsStoppedAt, IsSectionAt}
use Rattle.dcx_cert_runs.proofs.Built.{shows_last, answered_at, stopped_at}
use Rattle.dcx_cert_runs.proofs.building.CertifyingEachSetting.outcome.Goals as goal

pub answered-section-requires : goal.answered-section-requires
answered-section-requires g c = (
  c.args.self.now.limit,
  shows_last c.args.session.now.problem c.solve.new.self.problem c.args.setting.now c.args.self.now.limit c.args.session.now.cached c.solve.new.self.cached c.in-Ok.answer c.solve.result
      c.solve.new.self.last c.solve.ensures.shows c.in-Ok.is c.solve.ensures.same.0 c.solve.ensures.same.1,
)

pub returns-in-Ok-clause-end : goal.returns-in-Ok-clause-end
returns-in-Ok-clause-end g c =
    let limit = c.args.self.now.limit in
    let s = c.args.setting.now in
    let shows =
    shows_last c.args.session.now.problem c.solve.new.self.problem s limit c.args.session.now.cached c.solve.new.self.cached c.in-Ok.answer c.solve.result
    c.solve.new.self.last c.solve.ensures.shows c.in-Ok.is c.solve.ensures.same.0 c.solve.ensures.same.1 in
    answered_at c.args.session.now.problem limit s c.args.session.now.columns c.solve.new.self.columns c.args.stopped.now c.answered-section.result
    (subst (λ (z : Problem). ¬ (IsStoppedAt z limit s)) c.solve.ensures.same.0 (c.answered-section.ensures.not_stopped limit shows))
    (subst (λ (z : Problem). IfOk c.answered-section.result (IsSectionAt z limit s)) c.solve.ensures.same.0 (c.answered-section.ensures.section limit shows))

pub returns-in-Err-clause-end : goal.returns-in-Err-clause-end
returns-in-Err-clause-end g c =
    stopped_at c.args.session.now.problem c.args.self.now.limit c.args.setting.now c.args.session.now.columns c.solve.new.self.columns c.args.stopped.now c.in-Err.stop c.unanswered.result
    c.in-Err.ensures.answers c.unanswered.ensures.none c.unanswered.ensures.told
