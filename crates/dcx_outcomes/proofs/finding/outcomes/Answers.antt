-- Where a variable is to be whole, and warm outcomes aren't wanted, the outcomes are those of branch and bound.
use Rattle.std.proofs.lemmas.Result.{IfOk-weaker}
use Rattle.dcx_declared.proofs.Marked.{none_where_not}
use Rattle.dcx_outcomes.proofs.Finds.{found_warm, found_cold, found_whole}
use Rattle.dcx_outcomes.proofs.finding.outcomes.Goals as goal

pub returns-then-warm-clause-outcomes : goal.returns-then-warm-clause-outcomes
returns-then-warm-clause-outcomes g c =
    IfOk-weaker c.solved_outcomes.result _ _ (λ f h. found_warm c.args.warm c.args.problem c.args.limit c.args.settings.now f.outcomes f.warm c.if-warm.true h) c.solved_outcomes.ensures.outcomes

pub returns-then-has_whole-clause-outcomes : goal.returns-then-has_whole-clause-outcomes
returns-then-has_whole-clause-outcomes g c =
    IfOk-weaker c.whole_found.result _ _
    (λ f h. found_whole c.args.warm c.args.problem c.args.limit c.args.settings.now f.outcomes f.warm c.if-warm.false (c.has_whole.ensures.0 c.if-has_whole.true) h)
    c.whole_found.ensures.outcomes

pub returns-else-has_whole-clause-outcomes : goal.returns-else-has_whole-clause-outcomes
returns-else-has_whole-clause-outcomes g c =
    let none = none_where_not c.args.problem c.has_whole.result c.has_whole.ensures c.if-has_whole.false in
    IfOk-weaker c.solved_outcomes-else-has_whole.result _ _ (λ f h. found_cold c.args.warm c.args.problem c.args.limit c.args.settings.now f.outcomes f.warm c.if-warm.false none h)
    c.solved_outcomes-else-has_whole.ensures.outcomes
