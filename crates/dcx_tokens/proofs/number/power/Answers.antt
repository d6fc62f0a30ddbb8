-- A power of ten is small enough and not 0, and over 1 it is itself.
use Rattle.std.proofs.Common.{◌^◌, arith, pos, ap, ◌∙◌, sym}
use Rattle.std.specs.Prelude.{◌<ℤ◌}
use Rattle.std.proofs.lemmas.Int.{ints}
use Rattle.dcx_math.specs.Rational.{whole, ◌/ℚ◌}
use Rattle.dcx_math.proofs.Ratios.{ratio-is-/ℚ, ratio-one}
use Rattle.dcx_tokens.proofs.Digits.{power_small, power_positive}
use Rattle.dcx_tokens.specs.Number.{power_of_ten}
use Rattle.dcx_tokens.proofs.number.power.Goals as goal

pub pow-power-requires : goal.pow-power-requires
pow-power-requires c = omega (arith, power_small c.args.size c.requires)

pub quotient-requires-clause-den : goal.quotient-requires-clause-den
quotient-requires-clause-den c = omega (arith, power_small c.args.size c.requires)

pub quotient-requires-clause-positive : goal.quotient-requires-clause-positive
quotient-requires-clause-positive c = omega (arith, power_positive c.args.size)

pub quotient-requires-else-is_negative-clause-num : goal.quotient-requires-else-is_negative-clause-num
quotient-requires-else-is_negative-clause-num c = omega (arith, power_small c.args.size c.requires)

pub returns-else-is_negative : goal.returns-else-is_negative
returns-else-is_negative c =
    let one : pos 0 <ℤ pos 1 = omega (arith, ints) in
    let p = pos (10 ^ c.args.size) in
    let e = c.quotient-else-is_negative.ensures ∙ ap (λ n. whole (pos n) /ℚ whole (pos 1)) c.pow-power.ensures ∙ ratio-is-/ℚ p (pos 1) one ∙ ratio-one p one in
    e ∙ ap (λ b. power_of_ten b c.args.size) (sym c.if-is_negative.false)
