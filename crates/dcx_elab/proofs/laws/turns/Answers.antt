-- The laws of turns.
use Rattle.dcx_elab.proofs.Turned.{turns_hold}
use Rattle.dcx_elab.proofs.laws.turns.Goals as goal

pub returns : goal.returns
returns c = turns_hold
