-- A reduced program stays one where the setting's numbers are put in.
use Rattle.dcx_graph.proofs.AtSetting.{fixed_are_reductions}
use Rattle.dcx_graph.proofs.laws.fixed_are_reductions.Goals as goal

pub returns : goal.returns
returns c = fixed_are_reductions
