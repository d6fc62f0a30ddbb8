-- A program has one program at a setting, or one operation that passes first.
use Rattle.dcx_graph.proofs.Settings.{one_fixed}
use Rattle.dcx_graph.proofs.laws.one_program_at_setting.Goals as goal

pub returns : goal.returns
returns c = λ setting q r s h k. one_fixed setting q r s h k
