-- What comes of the settings of the session's problem; the steps of the beginning and those of the settings.
use Rattle.std.proofs.Common.{ℕ, List, length, Option, None, sym, subst}
use Rattle.std.proofs.lemmas.Result.{IfOk-weaker}
use Rattle.dcx_tree.specs.declared.problem.Problem.{Problem}
use Rattle.dcx_cache.specs.InTurn.{EndInTurn}
use Rattle.dcx_arena.proofs.Results.{on_ok}
use Rattle.dcx_cache.proofs.Counting.{counts, no_more, no_setting}
use Rattle.dcx_cache.proofs.each_setting.problem_outcomes.Goals as goal

pub session_outcomes-outcomes-requires : goal.session_outcomes-outcomes-requires
session_outcomes-outcomes-requires g c = subst (g.E.EachSetting.can_do c.args.each.now) (sym c.in_ok-session.ensures.problem) c.requires.can

pub returns-clause-outcomes : goal.returns-clause-outcomes
returns-clause-outcomes g c =
    let ends = g.E.EachSetting.ends c.args.each.now in
    let columns = c.session_outcomes-outcomes.new.session.columns in
    let tally = c.session_outcomes-outcomes.new.tally in
    IfOk-weaker c.session_outcomes-outcomes.result _ _
    (λ v h. (
      columns,
      subst (λ (z : Problem). EndInTurn (ends z) c.args.settings.now (None, c.args.tally.now) v.items (columns, tally)) c.in_ok-session.ensures.problem
          (subst (λ (z : Option (List ℕ)). EndInTurn (ends c.in_ok-session.session.problem) c.args.settings.now (z, c.args.tally.now) v.items (columns, tally)) c.in_ok-session.ensures.columns h),
    ))
    c.session_outcomes-outcomes.ensures.outcomes

pub returns-clause-counted : goal.returns-clause-counted
returns-clause-counted g c =
    on_ok c.session_outcomes-outcomes.result
    (counts c.args.problem c.in_ok-session.session.problem (length c.args.settings.now) c.args.steps.now c.begin.new.steps c.session_outcomes-outcomes.new.steps c.in_ok-session.ensures.problem
    c.in_ok-session.ensures.counted c.session_outcomes-outcomes.ensures.counted c.session_outcomes-outcomes.ensures.few)

pub returns-in_err-session-clause-few : goal.returns-in_err-session-clause-few
returns-in_err-session-clause-few g c = no_setting c.args.problem (length c.args.settings.now) c.args.steps.now c.begin.new.steps c.begin.ensures.few

pub returns-clause-few : goal.returns-clause-few
returns-clause-few g c =
    no_more c.args.problem c.in_ok-session.session.problem (length c.args.settings.now) c.args.steps.now c.begin.new.steps c.session_outcomes-outcomes.new.steps c.in_ok-session.ensures.problem
    c.begin.ensures.few c.session_outcomes-outcomes.ensures.counted c.session_outcomes-outcomes.ensures.few
