-- One answer is read from an answer of the rows, or one stop.
use Rattle.dcx_graph.proofs.OneReading.{readings_are_one}
use Rattle.dcx_graph.proofs.laws.readings_are_one.Goals as goal

pub returns : goal.returns
returns c = readings_are_one
