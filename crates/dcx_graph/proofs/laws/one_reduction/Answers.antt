-- A problem is reduced in one way, with numbers and with affine coefficients.
use Rattle.dcx_graph.proofs.OneWay.{one_numbers, one_affine}
use Rattle.dcx_graph.proofs.laws.one_reduction.Goals as goal

pub returns-clause-numbers : goal.returns-clause-numbers
returns-clause-numbers c = one_numbers

pub returns-clause-affine : goal.returns-clause-affine
returns-clause-affine c = one_affine
