-- Rows that are solved have no stop but want of memory.
use Rattle.dcx_lp_solve.proofs.OneSolution as holds
use Rattle.dcx_lp_solve.proofs.laws.solved_or_stopped.Goals as goal

pub returns : goal.returns
returns c = holds.solved_or_stopped
