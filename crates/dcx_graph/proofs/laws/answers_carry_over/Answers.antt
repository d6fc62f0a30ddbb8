-- A right answer of a reduced program is an answer of the problem.
use Rattle.dcx_graph.proofs.Backward.{answers_carry_over}
use Rattle.dcx_graph.proofs.laws.answers_carry_over.Goals as goal

pub returns : goal.returns
returns c = answers_carry_over
