-- Rows have one scaled program.
use Rattle.dcx_std.proofs.OneProgram as holds
use Rattle.dcx_std.proofs.laws.programs_are_one.Goals as goal

pub returns : goal.returns
returns c = holds.programs_are_one
