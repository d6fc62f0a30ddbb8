-- Lowest terms are unique.
use Rattle.dcx_frac.proofs.Parts.{value_injective}
use Rattle.dcx_frac.proofs.laws.equal_values_are_equal.Goals as goal

pub returns : goal.returns
returns c = value_injective
