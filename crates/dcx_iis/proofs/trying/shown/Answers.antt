-- Where the program can be solved the point is read, and else the answer is what is shown.
use Rattle.std.proofs.Common.{refl}
use Rattle.dcx_iis.proofs.trying.shown.Goals as goal

pub returns-in-Infeasible : goal.returns-in-Infeasible
returns-in-Infeasible c = (c.in-Infeasible.is, refl)
