-- A program with numbers is a reduced program at its setting.
use Rattle.dcx_graph.proofs.Correct.{numbers_are_reductions}
use Rattle.dcx_graph.proofs.laws.numbers_are_reductions.Goals as goal

pub returns : goal.returns
returns c = numbers_are_reductions
