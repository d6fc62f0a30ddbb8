-- The laws of broadcasting.
use Rattle.dcx_shape.proofs.Broadcasts.{broadcasts_hold}
use Rattle.dcx_shape.proofs.laws.broadcasts.Goals as goal

pub returns : goal.returns
returns c = broadcasts_hold
