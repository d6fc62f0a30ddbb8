-- Where divisors pass their check nothing is divided by 0.
use Rattle.dcx_cert_values.proofs.Nonzero.{divisors_hold}
use Rattle.dcx_cert_values.proofs.laws.divisors_are_not_zero.Goals as goal

pub returns : goal.returns
returns c = divisors_hold
