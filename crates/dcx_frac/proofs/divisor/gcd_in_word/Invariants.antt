-- Each greatest common divisor of what is left is one of the numbers given, and the rest falls.
use Rattle.std.proofs.Common.{ℕ}
use Rattle.std.specs.Int.{IsGcd}
use Rattle.dcx_frac.proofs.divisor.gcd_in_word.Given as goal

abbrev pub invariant-steps : goal.invariant-steps
invariant-steps l = (g : ℕ) → IsGcd l.x l.y g → IsGcd l.fn.a l.fn.b g

abbrev pub decreases-steps : goal.decreases-steps
decreases-steps l = l.y
