-- The laws of slices.
use Rattle.dcx_shape.proofs.SliceLaws.{slices_hold}
use Rattle.dcx_shape.proofs.laws.slices.Goals as goal

pub returns : goal.returns
returns c = slices_hold
