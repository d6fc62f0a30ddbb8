-- No two forms meet the equations.
use Rattle.dcx_unknowns.proofs.EquationsHold.{equations_determine}
use Rattle.dcx_unknowns.proofs.laws.equations_determine.Goals as goal

pub returns : goal.returns
returns c = equations_determine
