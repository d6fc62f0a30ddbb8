-- A step of Euclid keeps the greatest common divisors, and so does the last one before the numbers are left to one word.
use Rattle.std.proofs.Common.{◌%◌, sym, subst}
use Rattle.std.specs.Int.{IsGcd}
use Rattle.std.proofs.lemmas.Nat.Gcd.{IsGcd-from_zero, IsGcd-from_mod}
use Rattle.dcx_math.proofs.Divisors.{gcd_is, gcd_unique}
use Rattle.dcx_frac.proofs.divisor.gcd_in_two_words.Goals as goal

pub steps-preserved : goal.steps-preserved
steps-preserved c g h = c.steps.invariant g (IsGcd-from_mod _ _ g h)

pub returns-then-y-eq0 : goal.returns-then-y-eq0
returns-then-y-eq0 c = gcd_unique _ _ _ (c.steps.invariant _ (IsGcd-from_zero _ _ c.if-y-eq0.true))

pub returns-else-y-eq0 : goal.returns-else-y-eq0
returns-else-y-eq0 c =
    let x = c.steps.x in
    let y = c.steps.y in
    gcd_unique _ _ _ (c.steps.invariant _ (IsGcd-from_mod x y _ (subst (IsGcd y (x % y)) (sym c.gcd_in_word.ensures) (gcd_is y (x % y)))))
