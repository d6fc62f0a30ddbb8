-- The answer that is found, and what is kept after it.
use Rattle.std.proofs.Common.{◌≡◌, ◌+◌, ◌≤◌, Option, Some, Ok, IfErr, OnOk, is_some, length, sym, ap, ◌∙◌, subst}
use Rattle.std.proofs.lemmas.Result.{err_from_is_err_and}
use Rattle.dcx_tree.specs.declared.problem.Problem.{Problem}
use Rattle.dcx_tree.specs.Meaning.{IsAccepted}
use Rattle.dcx_chained.specs.Tables.{table_of}
use Rattle.dcx_cache.specs.declared.session.Last.{Last}
use Rattle.dcx_cache.specs.Programs.{HasMap}
use Rattle.dcx_cache.specs.Answers.{IsAnswerOf, Stops}
use Rattle.dcx_cache.specs.Columns.{columns_after, Keeps}
use Rattle.dcx_cache.specs.Sessions.{State, IsFound, Shows}
use Rattle.dcx_cache.proofs.Answered.{answers_are_right}
use Rattle.dcx_cache.proofs.Basics.{solved_readable}
use Rattle.dcx_cache.proofs.Kept.{lent_some}
use Rattle.dcx_cache.proofs.session.Session.solve.Goals as goal

pub returns-in_err-answer-clause-counted : goal.returns-in_err-answer-clause-counted
returns-in_err-answer-clause-counted g c = λ m. c.solved.ensures.counted (subst (λ (p : Problem). HasMap p) (sym (ap (λ (s : State). s.problem) c.self.view_is)) m)

pub keep-requires : goal.keep-requires
keep-requires g c = solved_readable c.args.limit c.in_ok-answer.found.solved (c.in_ok-answer.ensures {u = tt}).answer.is_solved.solved

pub returns-in-Err-clause-counted : goal.returns-in-Err-clause-counted
returns-in-Err-clause-counted g c = λ m. c.solved.ensures.counted (subst (λ (p : Problem). HasMap p) (sym (ap (λ (s : State). s.problem) c.self.view_is)) m)

pub returns-clause-answers : goal.returns-clause-answers
returns-clause-answers g c = (
  c.in_ok-answer.found.reduced.program,
  c.in_ok-answer.found.solved,
  subst (λ (p : Problem). IsAnswerOf p c.args.setting.now c.args.limit c.in_ok-answer.found.reduced.program c.in_ok-answer.found.solved c.in_ok-answer.answer)
      (ap (λ (s : State). s.problem) c.self.view_is)
      (c.in_ok-answer.ensures {u = tt}).answer,
)

pub returns-clause-right : goal.returns-clause-right
returns-clause-right g c =
    answers_are_right c.args.self.now.problem c.args.setting.now c.args.limit c.in_ok-answer.answer
    (subst (λ (p : Problem). IsAccepted p) (ap (λ (s : State). s.problem) c.self.view_is) c.self.invariant.accepted)
    (returns-clause-answers g c)

pub returns-clause-counted : goal.returns-clause-counted
returns-clause-counted g c = λ m. c.solved.ensures.counted (subst (λ (p : Problem). HasMap p) (sym (ap (λ (s : State). s.problem) c.self.view_is)) m)

-- ---- the setting is stopped
pub returns-in_err-answer-clause-answers : goal.returns-in_err-answer-clause-answers
returns-in_err-answer-clause-answers g c =
    let p = err_from_is_err_and c.from_residual.result c.from_residual.ensures.1 in
    let stops = subst (λ r. IfErr r (Stops c.self.inside.problem c.args.setting.now c.args.limit)) c.in_err-answer.was c.solved.ensures.stops in
    rw (p.1, p.2) (subst (λ (v : State). Stops v.problem c.args.setting.now c.args.limit c.in_err-answer.field-0.0) c.self.view_is stops)

pub returns-in_err-answer-clause-right : goal.returns-in_err-answer-clause-right
returns-in_err-answer-clause-right g c = let p = err_from_is_err_and c.from_residual.result c.from_residual.ensures.1 in rw p.1 tt

pub returns-in_err-answer-clause-shows : goal.returns-in_err-answer-clause-shows
returns-in_err-answer-clause-shows g c = let p = err_from_is_err_and c.from_residual.result c.from_residual.ensures.1 in rw p.1 tt

pub returns-in_err-answer-clause-columns : goal.returns-in_err-answer-clause-columns
returns-in_err-answer-clause-columns g c = let p = err_from_is_err_and c.from_residual.result c.from_residual.ensures.1 in rw p.1 (ap (λ (s : State). s.columns) c.self.view_is)

pub returns-in_err-answer-clause-same : goal.returns-in_err-answer-clause-same
returns-in_err-answer-clause-same g c = (ap (λ (s : State). s.problem) c.self.view_is, ap (λ (s : State). s.cached) c.self.view_is)

pub returns-in_err-answer-clause-few : goal.returns-in_err-answer-clause-few
returns-in_err-answer-clause-few g c = subst (λ (v : State). c.solved.new.steps ≤ c.args.steps.now + length v.problem.tree) c.self.view_is c.solved.ensures.few

-- ---- or nothing is kept
pub returns-in-Err-clause-columns : goal.returns-in-Err-clause-columns
returns-in-Err-clause-columns g c = c.in-Err.ensures.none.1 ∙ ap (λ (s : State). s.columns) c.self.view_is

pub returns-in-Err-clause-same : goal.returns-in-Err-clause-same
returns-in-Err-clause-same g c = (ap (λ (s : State). s.problem) c.self.view_is, ap (λ (s : State). s.cached) c.self.view_is)

pub returns-in-Err-clause-few : goal.returns-in-Err-clause-few
returns-in-Err-clause-few g c = subst (λ (v : State). c.solved.new.steps ≤ c.args.steps.now + length v.problem.tree) c.self.view_is c.solved.ensures.few

-- ---- or it is answered
pub returns-clause-shows : goal.returns-clause-shows
returns-clause-shows g c =
    let l = c.in_ok-answer.found in
    let a = c.in_ok-answer.answer in
    let s = c.args.setting.now in
    let known = c.in_ok-answer.ensures {u = tt} in
    let last = subst (λ r. OnOk r (c.keep.new.last ≡ Some l)) c.in-Ok.is c.keep.ensures.last in
    let found : IsFound c.self.inside.problem s c.args.limit (is_some c.self.inside.map) a l =
    record { answer = known.answer; from_map = known.from_map ∙ lent_some c.as_ref-map.result c.self.inside.map c.as_ref-map.ensures.value } in
    subst (λ (o : Option Last). Shows c.args.self.now.problem s c.args.limit c.args.self.now.cached a o) (sym last)
    (subst (λ (v : State). IsFound v.problem s c.args.limit v.cached a l) c.self.view_is found)

pub returns-clause-columns : goal.returns-clause-columns
returns-clause-columns g c =
    let l = c.in_ok-answer.found in
    let a = c.in_ok-answer.answer in
    let last = subst (λ r. OnOk r (c.keep.new.last ≡ Some l)) c.in-Ok.is c.keep.ensures.last in
    let columns = subst (λ r. OnOk r (c.keep.new.columns ≡ columns_after c.self.inside.columns a (table_of l.solved.tableau))) c.in-Ok.is c.keep.ensures.columns in
    subst (λ (o : Option Last). Keeps c.args.self.now.columns (Ok a) o c.keep.new.columns) (sym last)
    (subst (λ (v : State). c.keep.new.columns ≡ columns_after v.columns a (table_of l.solved.tableau)) c.self.view_is columns)

pub returns-clause-same : goal.returns-clause-same
returns-clause-same g c = (ap (λ (s : State). s.problem) c.self.view_is, ap (λ (s : State). s.cached) c.self.view_is)

pub returns-clause-few : goal.returns-clause-few
returns-clause-few g c = subst (λ (v : State). c.solved.new.steps ≤ c.args.steps.now + length v.problem.tree) c.self.view_is c.solved.ensures.few
