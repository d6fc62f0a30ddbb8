-- Each answer among the outcomes is right at its setting.
use Rattle.dcx_outcomes.proofs.Right.{outcomes_are_right}
use Rattle.dcx_outcomes.proofs.laws.outcomes_are_right.Goals as goal

pub returns : goal.returns
returns c = outcomes_are_right
