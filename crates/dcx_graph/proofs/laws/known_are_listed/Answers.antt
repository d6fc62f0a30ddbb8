-- A setting with an array for each parameter has each entry that a program lists.
use Rattle.dcx_graph.proofs.AtSetting.{known_are_listed}
use Rattle.dcx_graph.proofs.laws.known_are_listed.Goals as goal

pub returns : goal.returns
returns c = known_are_listed
