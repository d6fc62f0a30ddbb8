-- The divisor so far and that of the rest have the divisor of all.
use Rattle.std.proofs.Common.{◌≡◌, drop}
use Rattle.dcx_math.specs.Divisors.{gcd, gcd_of}
use Rattle.dcx_std.proofs.whole.common_divisor.Given as goal

abbrev pub invariant-numbers : goal.invariant-numbers
invariant-numbers l = gcd l.found (gcd_of (drop l.number-index l.numbers)) ≡ gcd_of l.numbers
