-- A program with affine coefficients is a reduced program at every setting.
use Rattle.dcx_graph.proofs.Correct.{affine_are_reductions}
use Rattle.dcx_graph.proofs.laws.affine_are_reductions.Goals as goal

pub returns : goal.returns
returns c = affine_are_reductions
