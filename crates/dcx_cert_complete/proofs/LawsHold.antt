-- Each nonlinear call has a dual graph: the law's proof.
use Rattle.dcx_cert_complete.specs.Laws.{AtomsHaveDualGraphs}
use Rattle.dcx_call.specs.Atoms.{atom_lawful}

pub atoms_have_dual_graphs : AtomsHaveDualGraphs
atoms_have_dual_graphs = record { graphs = λ m. (atom_lawful m).duality; fractions = λ m. (atom_lawful m).fraction_slopes }
