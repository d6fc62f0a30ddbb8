-- Forms that meet the equations are a reduced program.
use Rattle.dcx_unknowns.proofs.EquationsHold.{equations_reduce}
use Rattle.dcx_unknowns.proofs.laws.equations_reduce.Goals as goal

pub returns : goal.returns
returns c = equations_reduce
