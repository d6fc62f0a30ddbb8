-- The denominator has no sign, so the text is shorter than that of two signed numbers.
use Rattle.std.proofs.Common.{◌∙◌, ap, length, arith, rules, to_z-of_z, SFits}
use Rattle.std.specs.Int.{w128}
use Rattle.std.specs.Fmt.{signed_decimal}
use Rattle.dcx_frac.specs.Frac.{den_of}
use Rattle.dcx_frac.proofs.Texts.{length-positive, rest-behind}
use Rattle.dcx_frac.proofs.text.write_frac.Goals as goal

pub returns-clause-short : goal.returns-clause-short
returns-clause-short c =
    let f = c.args.f.now in
    let d = length-positive (den_of f) f.positive f.den_fits in
    let k : SFits w128 c.den-2.result = search rules in
    let same = ap (λ z. length (signed_decimal z)) (to_z-of_z k ∙ c.den-2.ensures) in
    let m = c.write_integer-middle.ensures in
    omega (arith, c.write_integer.ensures.end, same, m.end, m.short)

pub returns-clause-rest : goal.returns-clause-rest
returns-clause-rest c =
    rest-behind c.write_integer-middle.result c.write_integer.result 47 c.args.out.now c.write_integer-middle.new.out c.write_integer.new.out
    (omega (arith, c.write_integer.ensures.end)) c.write_integer-middle.ensures.rest c.write_integer.ensures.rest
