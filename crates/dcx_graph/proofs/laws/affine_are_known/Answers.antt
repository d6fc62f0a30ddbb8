-- A program with affine coefficients lists declared parameters alone.
use Rattle.dcx_graph.proofs.Correct.{affine_are_known}
use Rattle.dcx_graph.proofs.laws.affine_are_known.Goals as goal

pub returns : goal.returns
returns c = affine_are_known
