-- The outcomes of settings that end in turn.
use Rattle.std.proofs.Common.{sym, subst}
use Rattle.dcx_outcomes.specs.Filters.{AreFilterOutcomes}
use Rattle.dcx_outcomes.proofs.Asked.{asked_in_turn}
use Rattle.dcx_outcomes.proofs.filters.filter_outcomes.Goals as goal

pub returns-clause-outcomes : goal.returns-clause-outcomes
returns-clause-outcomes g c =
    subst (AreFilterOutcomes c.args.problem c.args.limit c.args.settings.now) (sym c.from_vec.ensures)
    (asked_in_turn _ _ _ c.args.problem c.args.settings.now _ c.in_ok-outcomes.outcomes.items _ c.in_ok-outcomes.ensures.outcomes.1)
