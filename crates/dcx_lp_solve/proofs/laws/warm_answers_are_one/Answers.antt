-- Rows have one program, one last tableau and one answer by a warm run from the same columns.
use Rattle.dcx_lp_solve.proofs.WarmRuns as holds
use Rattle.dcx_lp_solve.proofs.laws.warm_answers_are_one.Goals as goal

pub returns : goal.returns
returns c = holds.warm_answers_are_one
