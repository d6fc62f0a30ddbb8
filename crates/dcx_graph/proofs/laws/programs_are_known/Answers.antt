-- The program of nodes with affine coefficients lists declared parameters alone.
use Rattle.dcx_graph.proofs.Known.{programs_are_known}
use Rattle.dcx_graph.proofs.laws.programs_are_known.Goals as goal

pub returns : goal.returns
returns c = programs_are_known
