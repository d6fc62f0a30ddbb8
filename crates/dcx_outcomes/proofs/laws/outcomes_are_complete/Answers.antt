-- Each setting that nothing stops is answered.
use Rattle.dcx_outcomes.proofs.Complete as holds
use Rattle.dcx_outcomes.proofs.laws.outcomes_are_complete.Goals as goal

pub returns : goal.returns
returns c = holds.outcomes_are_complete
