-- The answer from what is kept, and what is kept after it.
use Rattle.std.proofs.Common.{◌≡◌, ◌≢◌, ◌+◌, ◌≤◌, Option, Some, Result, IfOk, IfErr, OnOk, is_some, option_copied, length, refl, sym, ap, ◌∙◌, subst}
use Rattle.dcx_tree.specs.declared.problem.Problem.{Problem}
use Rattle.dcx_tree.specs.Meaning.{IsAccepted}
use Rattle.dcx_answer.specs.declared.stop.Stop.{Stop}
use Rattle.dcx_answer.specs.declared.stop.Stop.TheVariants as why
use Rattle.dcx_chained.specs.Tables.{table_of}
use Rattle.dcx_cache.specs.declared.rewarming.Warmed.{Warmed}
use Rattle.dcx_cache.specs.declared.session.Last.{Last}
use Rattle.dcx_cache.specs.Programs.{HasMap}
use Rattle.dcx_cache.specs.Answers.{Stops}
use Rattle.dcx_cache.specs.Columns.{columns_after}
use Rattle.dcx_cache.specs.Sessions.{State}
use Rattle.dcx_cache.specs.Warm.{NeverWarm, IsAnsweredBy, IsStoppedWarm, IsFoundWarm, ShowsWarm}
use Rattle.dcx_cache.proofs.Kept.{lent_some}
use Rattle.dcx_cache.proofs.WarmRuns.{warm_answers_are_right, readable_by}
use Rattle.dcx_cache.proofs.session.Session.solve_warm.Goals as goal

pub returns-in-Err-clause-answers : goal.returns-in-Err-clause-answers
returns-in-Err-clause-answers g c =
    let p = c.self.inside.problem in
    let s = c.args.setting.now in
    let before = option_copied c.as_ref-columns.result in
    let stops = subst (λ (r : Result (Warmed × Last) Stop). IfErr r (Stops p s c.args.limit)) c.in-Err.is c.resolved.ensures.stops in
    let never = subst (λ (r : Result (Warmed × Last) Stop). IfErr r (λ e. e ≢ why.Memory → NeverWarm p s c.args.limit before)) c.in-Err.is c.resolved.ensures.never in
    let at : IsStoppedWarm p s c.args.limit before c.in-Err.stop before = record { stops = stops; never = never; columns = refl } in
    subst (λ (v : State). IsStoppedWarm v.problem s c.args.limit v.columns c.in-Err.stop c.self.inside.columns) c.self.view_is
    (subst (λ b. IsStoppedWarm p s c.args.limit b c.in-Err.stop b) c.as_ref-columns.ensures.value at)

pub returns-in-Err-clause-counted : goal.returns-in-Err-clause-counted
returns-in-Err-clause-counted g c = λ m. c.resolved.ensures.counted (subst (λ (p : Problem). HasMap p) (sym (ap (λ (s : State). s.problem) c.self.view_is)) m)

pub keep-requires : goal.keep-requires
keep-requires g c =
    let p = c.self.inside.problem in
    let s = c.args.setting.now in
    let before = option_copied c.as_ref-columns.result in
    let w = c.in-Ok.pair.0 in
    let l = c.in-Ok.pair.1 in
    let h = subst (λ (r : Result (Warmed × Last) Stop). IfOk r (λ x. IsAnsweredBy p s c.args.limit before x.0.kept x.1.reduced.program x.1.solved x.0.answer)) c.in-Ok.is c.resolved.ensures.answer in
    readable_by p s c.args.limit before w.kept l.reduced.program l.solved w.answer h

pub returns-in-Err-keep-clause-answers : goal.returns-in-Err-keep-clause-answers
returns-in-Err-keep-clause-answers g c = record {
  stops = tt;
  never = λ n. absurd (n refl);
  columns = c.in-Err-keep.ensures.none.1 ∙ ap (λ (v : State). v.columns) c.self.view_is;
}

pub returns-in-Err-keep-clause-counted : goal.returns-in-Err-keep-clause-counted
returns-in-Err-keep-clause-counted g c = λ m. c.resolved.ensures.counted (subst (λ (p : Problem). HasMap p) (sym (ap (λ (s : State). s.problem) c.self.view_is)) m)

pub returns-clause-answers : goal.returns-clause-answers
returns-clause-answers g c =
    let p = c.self.inside.problem in
    let s = c.args.setting.now in
    let before = option_copied c.as_ref-columns.result in
    let w = c.in-Ok.pair.0 in
    let l = c.in-Ok.pair.1 in
    let h = subst (λ (r : Result (Warmed × Last) Stop). IfOk r (λ x. IsAnsweredBy p s c.args.limit before x.0.kept x.1.reduced.program x.1.solved x.0.answer)) c.in-Ok.is c.resolved.ensures.answer in
    let at = subst (λ b. IsAnsweredBy p s c.args.limit b w.kept l.reduced.program l.solved w.answer) c.as_ref-columns.ensures.value h in
    let columns = subst (λ r. OnOk r (c.keep.new.columns ≡ columns_after c.self.inside.columns w.answer (table_of l.solved.tableau))) c.in-Ok-keep.is c.keep.ensures.columns in (
      l.reduced.program,
      l.solved,
      record {
        answer = subst (λ (v : State). IsAnsweredBy v.problem s c.args.limit v.columns w.kept l.reduced.program l.solved w.answer) c.self.view_is at;
        columns = subst (λ (v : State). c.keep.new.columns ≡ columns_after v.columns w.answer (table_of l.solved.tableau)) c.self.view_is columns;
      },
    )

pub returns-clause-right : goal.returns-clause-right
returns-clause-right g c =
    warm_answers_are_right c.args.self.now.problem c.args.setting.now c.args.limit c.args.self.now.columns c.in-Ok.pair.0 c.keep.new.columns
    (subst (λ (p : Problem). IsAccepted p) (ap (λ (s : State). s.problem) c.self.view_is) c.self.invariant.accepted)
    (returns-clause-answers g c)

pub returns-clause-counted : goal.returns-clause-counted
returns-clause-counted g c = λ m. c.resolved.ensures.counted (subst (λ (p : Problem). HasMap p) (sym (ap (λ (s : State). s.problem) c.self.view_is)) m)

pub returns-in-Err-clause-same : goal.returns-in-Err-clause-same
returns-in-Err-clause-same g c = (ap (λ (s : State). s.problem) c.self.view_is, ap (λ (s : State). s.cached) c.self.view_is)

pub returns-in-Err-clause-few : goal.returns-in-Err-clause-few
returns-in-Err-clause-few g c = subst (λ (v : State). c.resolved.new.steps ≤ c.args.steps.now + length v.problem.tree) c.self.view_is c.resolved.ensures.few

pub returns-in-Err-keep-clause-same : goal.returns-in-Err-keep-clause-same
returns-in-Err-keep-clause-same g c = (ap (λ (s : State). s.problem) c.self.view_is, ap (λ (s : State). s.cached) c.self.view_is)

pub returns-in-Err-keep-clause-few : goal.returns-in-Err-keep-clause-few
returns-in-Err-keep-clause-few g c = subst (λ (v : State). c.resolved.new.steps ≤ c.args.steps.now + length v.problem.tree) c.self.view_is c.resolved.ensures.few

pub returns-clause-same : goal.returns-clause-same
returns-clause-same g c = (ap (λ (s : State). s.problem) c.self.view_is, ap (λ (s : State). s.cached) c.self.view_is)

pub returns-clause-few : goal.returns-clause-few
returns-clause-few g c = subst (λ (v : State). c.resolved.new.steps ≤ c.args.steps.now + length v.problem.tree) c.self.view_is c.resolved.ensures.few

pub returns-clause-shows : goal.returns-clause-shows
returns-clause-shows g c =
    let p = c.self.inside.problem in
    let s = c.args.setting.now in
    let before = option_copied c.as_ref-columns.result in
    let w = c.in-Ok.pair.0 in
    let l = c.in-Ok.pair.1 in
    let h = subst (λ (r : Result (Warmed × Last) Stop). IfOk r (λ x. IsAnsweredBy p s c.args.limit before x.0.kept x.1.reduced.program x.1.solved x.0.answer)) c.in-Ok.is c.resolved.ensures.answer in
    let at = subst (λ b. IsAnsweredBy p s c.args.limit b w.kept l.reduced.program l.solved w.answer) c.as_ref-columns.ensures.value h in
    let from = subst (λ (r : Result (Warmed × Last) Stop). IfOk r (λ x. x.1.reduced.from_map ≡ is_some c.as_ref-map.result)) c.in-Ok.is c.resolved.ensures.from_map in
    let last = subst (λ r. OnOk r (c.keep.new.last ≡ Some l)) c.in-Ok-keep.is c.keep.ensures.last in
    let columns = subst (λ r. OnOk r (c.keep.new.columns ≡ columns_after c.self.inside.columns w.answer (table_of l.solved.tableau))) c.in-Ok-keep.is c.keep.ensures.columns in
    let found : IsFoundWarm p s c.args.limit c.self.inside.columns (is_some c.self.inside.map) w c.keep.new.columns l = record {
      answer = record { answer = at; columns = columns };
      from_map = from ∙ lent_some c.as_ref-map.result c.self.inside.map c.as_ref-map.ensures.value;
    } in
    subst (λ (o : Option Last). ShowsWarm c.args.self.now.problem s c.args.limit c.args.self.now.columns c.args.self.now.cached w c.keep.new.columns o) (sym last)
    (subst (λ (v : State). IsFoundWarm v.problem s c.args.limit v.columns v.cached w c.keep.new.columns l) c.self.view_is found)
