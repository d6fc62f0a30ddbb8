-- A limit that stops rows is bounded by the columns and rows of their program.
use Rattle.dcx_lp_solve.proofs.OneSolution as holds
use Rattle.dcx_lp_solve.proofs.laws.few_pivots.Goals as goal

pub returns : goal.returns
returns c = holds.few_pivots
