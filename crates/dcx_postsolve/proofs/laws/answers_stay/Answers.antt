-- Answers stay answers.
use Rattle.dcx_postsolve.proofs.Carrying.{answers_stay}
use Rattle.dcx_postsolve.proofs.laws.answers_stay.Goals as goal

pub returns : goal.returns
returns c = answers_stay
