-- The outcome tells how the session ends at the setting.
use Rattle.std.proofs.Common.{◌≡◌, ◌+◌, cond, OnOk, ap, subst, ◌∙◌}
use Rattle.dcx_tree.specs.declared.problem.Problem.{Problem}
use Rattle.dcx_outcomes.specs.Warm.{Tells}
use Rattle.dcx_outcomes.proofs.More.{names_end}
use Rattle.dcx_outcomes.proofs.telling.SolvingEachSetting.outcome.Goals as goal

pub told-outcome-requires : goal.told-outcome-requires
told-outcome-requires g c =
    names_end c.args.self.now.warm c.args.session.now.problem c.problem.result.now c.args.self.now.limit c.args.setting.now c.args.session.now.columns c.session_end-end.new.session.columns
    c.session_end-end.result (c.problem.ensures.problem ∙ c.session_end-end.ensures.same) c.session_end-end.ensures.ends

pub returns-in-Ok-clause-end : goal.returns-in-Ok-clause-end
returns-in-Ok-clause-end g c =
    let counted = subst (λ r. OnOk r (c.count-counted.new.kept ≡ c.args.kept.now + cond c.is_kept.result 1 0)) c.in-Ok.is c.count-counted.ensures in
    record {
      end = c.session_end-end.result;
      ends = c.session_end-end.ensures.ends;
      tells = subst (λ (z : Problem). Tells z c.session_end-end.result c.told-outcome.result) (c.problem.ensures.problem ∙ c.session_end-end.ensures.same) c.told-outcome.ensures;
      count = counted ∙ ap (λ b. c.args.kept.now + cond b 1 0) c.is_kept.ensures;
    }
