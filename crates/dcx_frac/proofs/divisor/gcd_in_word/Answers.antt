-- A step of Euclid keeps the greatest common divisors.
use Rattle.std.proofs.Common.{arith}
use Rattle.std.proofs.lemmas.Nat.Gcd.{IsGcd-from_zero, IsGcd-from_mod}
use Rattle.dcx_math.proofs.Divisors.{gcd_unique}
use Rattle.dcx_frac.proofs.divisor.gcd_in_word.Goals as goal

pub steps-preserved : goal.steps-preserved
steps-preserved c g h = c.steps.invariant g (IsGcd-from_mod _ _ g h)

pub returns : goal.returns
returns c = gcd_unique _ _ _ (c.steps.invariant _ (IsGcd-from_zero _ _ (omega arith)))
