-- Nodes that are formed of fractions have no divisor with an entry of 0.
use Rattle.dcx_cache.proofs.DivisorLawsHold.{fracs_divide_by_no_zero}
use Rattle.dcx_cache.proofs.laws.fracs_divide_by_no_zero.Goals as goal

pub returns : goal.returns
returns c = fracs_divide_by_no_zero
