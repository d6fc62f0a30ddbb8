-- The slopes of a nonlinear call are those of the weighted rows of its graph.
use Rattle.dcx_cert_complete.proofs.LawsHold.{atoms_have_dual_graphs}
use Rattle.dcx_cert_complete.proofs.laws.atoms_have_dual_graphs.Goals as goal

pub returns : goal.returns
returns c = atoms_have_dual_graphs
