-- The outcomes of settings that end in turn; a problem with a range has a map, so no step is counted.
use Rattle.std.proofs.Common.{sym, subst}
use Rattle.dcx_outcomes.specs.Ranges.{AreRangeOutcomes}
use Rattle.dcx_outcomes.proofs.Asked.{asked_in_turn}
use Rattle.dcx_outcomes.proofs.ranges.range_outcomes.Goals as goal

pub returns-clause-outcomes : goal.returns-clause-outcomes
returns-clause-outcomes g c =
    subst (AreRangeOutcomes c.args.session.now.problem c.args.name.now c.args.limit c.args.settings.now) (sym c.from_vec.ensures)
    (asked_in_turn _ _ _ c.args.session.now.problem c.args.settings.now _ c.in_ok-outcomes.outcomes.items _ c.in_ok-outcomes.ensures.outcomes)

pub returns-clause-counted : goal.returns-clause-counted
returns-clause-counted g c = c.session_outcomes.ensures.counted (c.requires.map, c.requires.is_map)

pub returns-in_err-outcomes-clause-counted : goal.returns-in_err-outcomes-clause-counted
returns-in_err-outcomes-clause-counted g c = c.session_outcomes.ensures.counted (c.requires.map, c.requires.is_map)
