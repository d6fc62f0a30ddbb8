-- Rows have one stop.
use Rattle.dcx_std.proofs.OneProgram as holds
use Rattle.dcx_std.proofs.laws.stops_are_one.Goals as goal

pub returns : goal.returns
returns c = holds.stops_are_one
