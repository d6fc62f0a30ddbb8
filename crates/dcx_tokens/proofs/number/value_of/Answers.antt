-- Within the limits the value is the mantissa times the power of ten, where that product fits.
use Rattle.std.proofs.Common.{◌≡◌, true, cond, ap, ap₂, ◌∙◌, sym, arith, Option, None}
use Rattle.std.specs.Result.{result_ok}
use Rattle.std.specs.Str.Parse.{digits_value}
use Rattle.std.proofs.lemmas.Bool.Decides.{nat_tests}
use Rattle.dcx_math.specs.Rational.{◌*ℚ◌}
use Rattle.dcx_frac.specs.declared.fraction.Frac.{Frac}
use Rattle.dcx_tokens.specs.Number.{power_of_ten, spelling_of, is_in_limits, value_of, frac_at}
use Rattle.dcx_tokens.proofs.Fractions.{product_ok}
use Rattle.dcx_tokens.proofs.number.value_of.Goals as goal

pub returns : goal.returns
returns c =
    let s = spelling_of c.args.numeral in
    let size : c.exponent_size-size.result ≡ digits_value 10 c.args.numeral.exponent.now = omega (arith, c.exponent_size-size.ensures) in
    let limits : is_in_limits s ≡ true = grind (arith, nat_tests) in
    let factor = c.power.ensures ∙ ap (power_of_ten c.args.numeral.is_negative) size in
    c.ok.ensures.value ∙ ap result_ok c.mul.ensures.answer ∙ product_ok c.mantissa-mantissa.result c.power.result
    ∙ ap frac_at (ap₂ ◌*ℚ◌ c.mantissa-mantissa.ensures factor) ∙ sym (ap (λ b. cond {A = Option Frac} b (frac_at (value_of s)) None) limits)
