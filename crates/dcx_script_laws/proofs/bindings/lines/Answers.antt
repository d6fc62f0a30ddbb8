-- The laws of lines.
use Rattle.dcx_script_laws.proofs.Bound.{bindings_hold}
use Rattle.dcx_script_laws.proofs.bindings.lines.Goals as goal

pub returns : goal.returns
returns c = bindings_hold
