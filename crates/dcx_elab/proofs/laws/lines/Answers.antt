-- The laws of lines.
use Rattle.dcx_elab.proofs.Turned.{lines_hold}
use Rattle.dcx_elab.proofs.laws.lines.Goals as goal

pub returns : goal.returns
returns c = lines_hold
