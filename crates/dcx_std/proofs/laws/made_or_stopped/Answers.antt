-- Rows that have a program have no stop but want of memory.
use Rattle.dcx_std.proofs.OneProgram as holds
use Rattle.dcx_std.proofs.laws.made_or_stopped.Goals as goal

pub returns : goal.returns
returns c = holds.made_or_stopped
