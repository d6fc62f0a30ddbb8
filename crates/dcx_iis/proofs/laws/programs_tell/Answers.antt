-- The program of a set tells whether the set is possible.
use Rattle.dcx_iis.proofs.Ends as holds
use Rattle.dcx_iis.proofs.laws.programs_tell.Goals as goal

pub returns : goal.returns
returns c = holds.programs_tell
