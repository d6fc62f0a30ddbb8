-- Gathering keeps values.
use Rattle.dcx_tree.proofs.LawsHold.{gathering_keeps_values}
use Rattle.dcx_tree.proofs.laws.gathering_keeps_values.Goals as goal

pub returns : goal.returns
returns c = gathering_keeps_values
