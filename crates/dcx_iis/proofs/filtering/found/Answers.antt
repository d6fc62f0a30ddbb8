-- What is told is what is left.
use Rattle.std.proofs.Common.{refl}
use Rattle.dcx_iis.proofs.filtering.found.Goals as goal

pub returns-in-Ok-clause-end : goal.returns-in-Ok-clause-end
returns-in-Ok-clause-end c = (c.in-Ok.ensures.members, c.in-Ok.ensures.duals, refl, c.from_vec.ensures)

pub returns-in-Err-clause-stops : goal.returns-in-Err-clause-stops
returns-in-Err-clause-stops c = c.in-Err.ensures.stops
