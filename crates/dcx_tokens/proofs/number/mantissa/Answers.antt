-- Thirty digits and their power of ten are small enough, and their quotient is the value.
use Rattle.std.proofs.Common.{◌≡◌, ◌++◌, length, arith, pos, ap, ap₂, ◌∙◌, sym}
use Rattle.dcx_math.specs.Rational.{whole, ◌/ℚ◌}
use Rattle.std.specs.Str.Parse.{digits_value, digits_value_after}
use Rattle.dcx_tokens.proofs.Digits.{power_small, power_positive, both_small, after-append}
use Rattle.dcx_tokens.proofs.number.mantissa.Goals as goal

pub with_digits-requires-clause-room : goal.with_digits-requires-clause-room
with_digits-requires-clause-room c = omega (arith, power_small (length c.args.front.now) (omega arith))

pub with_digits-number-requires-clause-room : goal.with_digits-number-requires-clause-room
with_digits-number-requires-clause-room c = both_small _ (length c.args.front.now) (length c.args.behind.now) c.with_digits.ensures.small c.requires.few

pub pow-requires : goal.pow-requires
pow-requires c = omega (arith, power_small (length c.args.behind.now) (omega arith))

pub quotient-requires-clause-num : goal.quotient-requires-clause-num
quotient-requires-clause-num c =
    let room = both_small c.with_digits.result (length c.args.front.now) (length c.args.behind.now) c.with_digits.ensures.small c.requires.few in
    let small = c.with_digits-number.ensures.small in
    omega arith

pub quotient-requires-clause-den : goal.quotient-requires-clause-den
quotient-requires-clause-den c = omega (arith, c.pow.ensures, power_small (length c.args.behind.now) (omega arith))

pub quotient-requires-clause-positive : goal.quotient-requires-clause-positive
quotient-requires-clause-positive c = omega (arith, c.pow.ensures, power_positive (length c.args.behind.now))

pub returns : goal.returns
returns c =
    let front = c.args.front.now in
    let behind = c.args.behind.now in
    let n : c.with_digits-number.result ≡ digits_value 10 (front ++ behind) =
    c.with_digits-number.ensures.value ∙ ap (λ m. digits_value_after 10 m behind) c.with_digits.ensures.value ∙ sym (after-append 0 front behind) in
    c.quotient.ensures ∙ ap₂ (λ m p. whole (pos m) /ℚ whole (pos p)) n c.pow.ensures
