-- The end of the next setting is one end more.
use Rattle.std.proofs.Common.{◌≡◌, ◌+◌, ◌*◌, ◌≤◌, List, [], length, refl, sym, ◌∙◌, subst, arith, rules}
use Rattle.std.proofs.lemmas.List.{take_all}
use Rattle.std.proofs.lemmas.Result.{err_from_is_err_and}
use Rattle.dcx_point.specs.Pairs.{Pairs}
use Rattle.dcx_tree.specs.declared.problem.Problem.{Problem}
use Rattle.dcx_cache.specs.Programs.{HasMap}
use Rattle.dcx_cache.specs.InTurn.{EndInTurn}
use Rattle.dcx_cache.proofs.InTurn.{step_in_turn}
use Rattle.dcx_cache.proofs.Counting.{at_least, steps_more, few_within}
use Rattle.dcx_cache.proofs.each_setting.session_outcomes.Goals as goal

pub outcome-requires : goal.outcome-requires
outcome-requires g c = subst (g.E.EachSetting.can_do c.args.each.now) (sym c.loop-setting.invariant.same) c.requires

pub loop-setting-preserved : goal.loop-setting-preserved
loop-setting-preserved g c =
    let before = c.loop-setting.invariant in
    let p = c.args.session.now.problem in
    let each = g.E.EachSetting in
    record {
      outcomes = step_in_turn (each.ends c.args.each.now p) c.args.settings.now c.loop-setting.setting-index (c.args.session.now.columns, c.args.tally.now) c.loop-setting.outcomes.items
          c.push.new.self.items (c.loop-setting.session.columns, c.loop-setting.tally) c.setting-item.result c.in_ok-next.next (c.outcome.new.session.columns, c.outcome.new.tally)
          (omega arith) c.setting-item.is c.in_ok-push.ensures.items before.outcomes
          (subst (λ (z : Problem). each.ends c.args.each.now z c.setting-item.result (c.loop-setting.session.columns, c.loop-setting.tally) c.in_ok-next.next
          (c.outcome.new.session.columns, c.outcome.new.tally)) before.same c.in_ok-next.ensures.end);
      same = c.outcome.ensures.same ∙ before.same;
      counted = λ h. c.outcome.ensures.counted (subst (λ (z : Problem). HasMap z) (sym before.same) h) ∙ before.counted h;
      few = steps_more c.loop-setting.setting-index (length p.tree) c.args.steps.now c.loop-setting.steps c.outcome.new.steps before.few
          (subst (λ (z : Problem). c.outcome.new.steps ≤ c.loop-setting.steps + length z.tree) before.same c.outcome.ensures.few);
    }

pub loop-setting-init : goal.loop-setting-init
loop-setting-init g c =
    record {
      outcomes = subst (λ os. EndInTurn (g.E.EachSetting.ends c.args.each.now c.args.session.now.problem) [] (c.args.session.now.columns, c.args.tally.now) os
          (c.args.session.now.columns, c.args.tally.now))
          (sym c.in_ok-outcomes.ensures.items) refl;
      same = refl;
      counted = λ h. refl;
      few = omega arith;
    }

pub loop-setting-smaller : goal.loop-setting-smaller
loop-setting-smaller g c = search rules

-- ---- where memory is wanting
pub returns-in_err-outcomes-clause-outcomes : goal.returns-in_err-outcomes-clause-outcomes
returns-in_err-outcomes-clause-outcomes g c = let p = err_from_is_err_and c.from_residual.result c.from_residual.ensures.1 in rw p.1 tt

pub returns-in_err-outcomes-clause-counted : goal.returns-in_err-outcomes-clause-counted
returns-in_err-outcomes-clause-counted g c = λ h. refl

pub returns-in_err-outcomes-clause-few : goal.returns-in_err-outcomes-clause-few
returns-in_err-outcomes-clause-few g c = at_least c.args.steps.now (length c.args.settings.now * length c.args.session.now.problem.tree)

pub returns-in_err-next-clause-outcomes : goal.returns-in_err-next-clause-outcomes
returns-in_err-next-clause-outcomes g c = let p = err_from_is_err_and c.from_residual-in_err-next.result c.from_residual-in_err-next.ensures.1 in rw p.1 tt

pub returns-in_err-next-clause-counted : goal.returns-in_err-next-clause-counted
returns-in_err-next-clause-counted g c =
    let before = c.loop-setting.invariant in
    λ h. c.outcome.ensures.counted (subst (λ (z : Problem). HasMap z) (sym before.same) h) ∙ before.counted h

pub returns-in_err-next-clause-few : goal.returns-in_err-next-clause-few
returns-in_err-next-clause-few g c =
    let before = c.loop-setting.invariant in
    let p = c.args.session.now.problem in
    few_within (c.loop-setting.setting-index + 1) (length c.args.settings.now) (length p.tree) c.args.steps.now c.outcome.new.steps (omega arith)
    (steps_more c.loop-setting.setting-index (length p.tree) c.args.steps.now c.loop-setting.steps c.outcome.new.steps before.few
    (subst (λ (z : Problem). c.outcome.new.steps ≤ c.loop-setting.steps + length z.tree) before.same c.outcome.ensures.few))

pub returns-in_err-push-clause-outcomes : goal.returns-in_err-push-clause-outcomes
returns-in_err-push-clause-outcomes g c = let p = err_from_is_err_and c.from_residual-in_err-push.result c.from_residual-in_err-push.ensures.1 in rw p.1 tt

pub returns-in_err-push-clause-counted : goal.returns-in_err-push-clause-counted
returns-in_err-push-clause-counted g c =
    let before = c.loop-setting.invariant in
    λ h. c.outcome.ensures.counted (subst (λ (z : Problem). HasMap z) (sym before.same) h) ∙ before.counted h

pub returns-in_err-push-clause-few : goal.returns-in_err-push-clause-few
returns-in_err-push-clause-few g c =
    let before = c.loop-setting.invariant in
    let p = c.args.session.now.problem in
    few_within (c.loop-setting.setting-index + 1) (length c.args.settings.now) (length p.tree) c.args.steps.now c.outcome.new.steps (omega arith)
    (steps_more c.loop-setting.setting-index (length p.tree) c.args.steps.now c.loop-setting.steps c.outcome.new.steps before.few
    (subst (λ (z : Problem). c.outcome.new.steps ≤ c.loop-setting.steps + length z.tree) before.same c.outcome.ensures.few))

-- ---- all settings
pub returns-clause-outcomes : goal.returns-clause-outcomes
returns-clause-outcomes g c =
    subst (λ (z : List Pairs). EndInTurn (g.E.EachSetting.ends c.args.each.now c.args.session.now.problem) z (c.args.session.now.columns, c.args.tally.now) c.loop-setting.outcomes.items
    (c.loop-setting.session.columns, c.loop-setting.tally)) (take_all c.loop-setting.setting-index c.args.settings.now (omega arith)) c.loop-setting.invariant.outcomes

pub returns-clause-counted : goal.returns-clause-counted
returns-clause-counted g c = c.loop-setting.invariant.counted

pub returns-clause-few : goal.returns-clause-few
returns-clause-few g c =
    let all : c.loop-setting.setting-index ≡ length c.args.settings.now = omega (arith, c.loop-setting-test.false, c.loop-setting.auto.setting-index-end) in
    subst (λ n. c.loop-setting.steps ≤ c.args.steps.now + n * length c.args.session.now.problem.tree) all c.loop-setting.invariant.few
