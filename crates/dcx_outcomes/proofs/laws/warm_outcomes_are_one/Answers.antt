-- Settings have one list of warm outcomes, as long as memory lasts.
use Rattle.dcx_outcomes.proofs.Warm.{warm_outcomes_are_one}
use Rattle.dcx_outcomes.proofs.laws.warm_outcomes_are_one.Goals as goal

pub returns : goal.returns
returns c = warm_outcomes_are_one
