-- The value is representable.
use Rattle.dcx_frac.proofs.Parts.{value_representable}
use Rattle.dcx_frac.proofs.laws.values_are_representable.Goals as goal

pub returns : goal.returns
returns c = value_representable
