-- A right answer of the linear program is right for the reduced program.
use Rattle.dcx_postsolve.proofs.CarryingLawsHold.{answers_carry_over}
use Rattle.dcx_postsolve.proofs.laws.answers_carry_over.Goals as goal

pub returns : goal.returns
returns c = answers_carry_over
