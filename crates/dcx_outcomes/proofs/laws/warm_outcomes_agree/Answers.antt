-- A warm outcome has the status and the value of the fresh one.
use Rattle.dcx_outcomes.proofs.Warm.{warm_outcomes_agree}
use Rattle.dcx_outcomes.proofs.laws.warm_outcomes_agree.Goals as goal

pub returns : goal.returns
returns c = warm_outcomes_agree
