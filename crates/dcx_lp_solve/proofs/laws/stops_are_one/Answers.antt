-- Rows have one stop under a limit.
use Rattle.dcx_lp_solve.proofs.OneSolution as holds
use Rattle.dcx_lp_solve.proofs.laws.stops_are_one.Goals as goal

pub returns : goal.returns
returns c = holds.stops_are_one
