-- The laws of reshapes.
use Rattle.dcx_shape.proofs.Reshapes.{reshapes_hold}
use Rattle.dcx_shape.proofs.laws.reshapes.Goals as goal

pub returns : goal.returns
returns c = reshapes_hold
