-- Rows have one program, one last tableau and one answer under a limit.
use Rattle.dcx_lp_solve.proofs.OneSolution as holds
use Rattle.dcx_lp_solve.proofs.laws.answers_are_one.Goals as goal

pub returns : goal.returns
returns c = holds.answers_are_one
