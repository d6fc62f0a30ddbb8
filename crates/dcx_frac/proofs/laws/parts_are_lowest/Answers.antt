-- The parts are the lowest terms.
use Rattle.dcx_frac.proofs.Parts.{value_lowest}
use Rattle.dcx_frac.proofs.laws.parts_are_lowest.Goals as goal

pub returns : goal.returns
returns c = value_lowest
