-- The laws of indices.
use Rattle.dcx_shape.proofs.IndexLaws.{indices_hold}
use Rattle.dcx_shape.proofs.laws.indices.Goals as goal

pub returns : goal.returns
returns c = indices_hold
