-- Settings have one list of outcomes.
use Rattle.dcx_outcomes.proofs.OneOutcome.{outcomes_are_one}
use Rattle.dcx_outcomes.proofs.laws.outcomes_are_one.Goals as goal

pub returns : goal.returns
returns c = outcomes_are_one
