-- What is read at the end of a run is right for the program.
use Rattle.dcx_lp_solve.proofs.Right as holds
use Rattle.dcx_lp_solve.proofs.laws.answers_are_right.Goals as goal

pub returns : goal.returns
returns c = holds.answers_are_right
