-- The answer at the end of a warm run is right for the program.
use Rattle.dcx_lp_solve.proofs.WarmRuns as holds
use Rattle.dcx_lp_solve.proofs.laws.warm_answers_are_right.Goals as goal

pub returns : goal.returns
returns c = holds.warm_answers_are_right
