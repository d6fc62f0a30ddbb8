-- The common divisor is taken out of both parts.
use Rattle.std.proofs.Common.{◌≡◌, ◌≢◌, ◌<◌, ◌/◌, unsigned_abs, to_z, of_z, to_z-of_z, pos, sym, ap, ap₂, ◌∙◌, subst, IfSome}
use Rattle.std.specs.Int.{w128}
use Rattle.dcx_math.specs.Divisors.{gcd}
use Rattle.dcx_math.specs.Rational.{whole, ◌/ℚ◌}
use Rattle.dcx_frac.specs.Fits.{IsRepresentable}
use Rattle.dcx_frac.specs.Frac.{value}
use Rattle.dcx_frac.proofs.Integers.{over_unit, whole_fits}
use Rattle.dcx_frac.proofs.Parts.{exists_exactly, has_value}
use Rattle.dcx_frac.proofs.Reduced.{sign, common, common_pos, lower_pos, parts_coprime, quotient_lowest}
use Rattle.dcx_frac.proofs.fraction.Frac.of.Goals as goal
use Rattle.dcx_frac.proofs.fraction.Frac.of.Goals.{After-gcd-g}

num_is : (c : After-gcd-g) → c.unsigned_abs-n.result ≡ unsigned_abs c.args.num
num_is c = c.unsigned_abs-n.ensures.value ∙ ap unsigned_abs (to_z-of_z c.ranges.num)

den_is : (c : After-gcd-g) → c.unsigned_abs-d.result ≡ unsigned_abs c.args.den
den_is c = c.unsigned_abs-d.ensures.value ∙ ap unsigned_abs (to_z-of_z c.ranges.den)

some : (c : After-gcd-g) → c.args.den ≢ pos 0
some c h = c.if-den-eq0.false (ap (of_z w128) h)

divisor_is : (c : After-gcd-g) → c.gcd-g.result ≡ common c.args.num c.args.den (some c)
divisor_is c = c.gcd-g.ensures ∙ ap₂ gcd (num_is c) (den_is c)

divisor_pos : (c : After-gcd-g) → 0 < c.gcd-g.result
divisor_pos c = rw (divisor_is c) (common_pos c.args.num c.args.den (some c))

pub nonzero_div-n : goal.nonzero_div-n
nonzero_div-n c = divisor_pos c

pub nonzero_div-d : goal.nonzero_div-d
nonzero_div-d c = divisor_pos c

pub from_parts-requires-clause-coprime : goal.from_parts-requires-clause-coprime
from_parts-requires-clause-coprime c = rw (divisor_is c, num_is c, den_is c) (parts_coprime c.args.num c.args.den (some c))

pub from_parts-requires-clause-positive : goal.from_parts-requires-clause-positive
from_parts-requires-clause-positive c = rw (divisor_is c, den_is c) (lower_pos c.args.num c.args.den (some c))

pub returns-clause-exists : goal.returns-clause-exists
returns-clause-exists c =
    let b = (goal.at.returns-clause-exists c).After-gcd-g in
    let n = c.args.num in
    let d = c.args.den in
    let f = rw (divisor_is b, num_is b, den_is b) at c.from_parts.ensures.exists in
    let e = exists_exactly (whole n /ℚ whole d) (sign n d (some b)) (unsigned_abs n / common n d (some b)) (unsigned_abs d / common n d (some b))
    (quotient_lowest n d (some b)) c.from_parts.result f in
    (λ s. (some b, e.0 s), λ q. e.1 q.1)

pub returns-clause-value : goal.returns-clause-value
returns-clause-value c =
    let b = (goal.at.returns-clause-value c).After-gcd-g in
    let n = c.args.num in
    let d = c.args.den in
    let en = simp (to_z-of_z c.ranges.num, to_z-of_z c.ranges.den, num_is b, divisor_is b) at c.from_parts.ensures.num in
    let ed = rw (divisor_is b, den_is b) at c.from_parts.ensures.den in
    has_value (whole n /ℚ whole d) (sign n d (some b)) (unsigned_abs n / common n d (some b)) (unsigned_abs d / common n d (some b)) (quotient_lowest n d (some b)) c.from_parts.result en ed

pub returns-then-den-eq1-clause-exists : goal.returns-then-den-eq1-clause-exists
returns-then-den-eq1-clause-exists c =
    let unit : c.args.den ≡ pos 1 = sym (to_z-of_z c.ranges.den) ∙ ap (to_z w128) c.if-den-eq1.true in
    let same : whole c.args.num /ℚ whole c.args.den ≡ whole c.args.num = ap (λ d. whole c.args.num /ℚ whole d) unit ∙ over_unit c.args.num in
    let fits = whole_fits c.args.num in
    let num = c.ranges.num in
    let e = simp to_z-of_z at c.integer.ensures.exists in
    (λ s. (λ h. c.if-den-eq0.false (ap (of_z w128) h), subst IsRepresentable (sym same) (fits.1 (e.0 s))), λ h. e.1 (fits.0 (subst IsRepresentable same h.1)))

pub returns-then-den-eq1-clause-value : goal.returns-then-den-eq1-clause-value
returns-then-den-eq1-clause-value c =
    let unit : c.args.den ≡ pos 1 = sym (to_z-of_z c.ranges.den) ∙ ap (to_z w128) c.if-den-eq1.true in
    let same : whole c.args.num /ℚ whole c.args.den ≡ whole c.args.num = ap (λ d. whole c.args.num /ℚ whole d) unit ∙ over_unit c.args.num in
    let num = c.ranges.num in
    let is = simp to_z-of_z at c.integer.ensures.value in
    subst (λ x. IfSome c.integer.result (λ f. value f ≡ x)) (sym same) is
