-- The greatest common divisor and the least common multiple.
use Rattle.dcx_math.proofs.LawsHold.{has_divisors}
use Rattle.dcx_math.proofs.common_divisors.Goals as goal

pub returns : goal.returns
returns c = has_divisors
