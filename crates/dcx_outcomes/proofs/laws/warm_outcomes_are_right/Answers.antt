-- Each answer among the warm outcomes is right at its setting.
use Rattle.dcx_outcomes.proofs.Warm.{warm_outcomes_are_right}
use Rattle.dcx_outcomes.proofs.laws.warm_outcomes_are_right.Goals as goal

pub returns : goal.returns
returns c = warm_outcomes_are_right
