-- A step of Euclid keeps the greatest common divisor.
use Rattle.std.proofs.Common.{◌≡◌, ◌%◌, ℕ, sym, ap, ◌∙◌}
use Rattle.std.proofs.lemmas.Nat.Gcd.{IsGcd-from_mod}
use Rattle.dcx_math.specs.Divisors.{gcd}
use Rattle.dcx_math.proofs.Divisors.{gcd_is, gcd_unique, gcd-zero}
use Rattle.dcx_chained.proofs.reduce.shared_with.Goals as goal

-- the divisor of a number and what is left of it
step : (n d : ℕ) → gcd d (n % d) ≡ gcd n d
step n d = gcd_unique n d (gcd d (n % d)) (IsGcd-from_mod n d (gcd d (n % d)) (gcd_is d (n % d)))

pub returns-then-found-eq0 : goal.returns-then-found-eq0
returns-then-found-eq0 c = sym (ap (gcd c.args.number) c.if-found-eq0.true ∙ gcd-zero c.args.number)

pub returns-then-rest-eq0 : goal.returns-then-rest-eq0
returns-then-rest-eq0 c = sym (gcd-zero c.args.found) ∙ ap (gcd c.args.found) (sym c.if-rest-eq0.true) ∙ step c.args.number c.args.found

pub returns : goal.returns
returns c = c.gcd-2.ensures ∙ step c.args.number c.args.found
