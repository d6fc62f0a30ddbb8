-- A quotient by 1 is the number.
use Rattle.std.proofs.Common.{rules, ◌≡◌, ◌∙◌, sym, ap, pos, unsigned_abs, to_z, to_z-of_z, SFits}
use Rattle.std.specs.Int.{w128}
use Rattle.dcx_math.specs.Divisors.{divided}
use Rattle.dcx_math.proofs.Divisors.{divided-one}
use Rattle.dcx_chained.proofs.words.divided_by.Goals as goal

pub returns-then-divisor-eq1 : goal.returns-then-divisor-eq1
returns-then-divisor-eq1 c =
    let f : SFits w128 c.args.divisor = search rules in
    let e : c.args.divisor ≡ pos 1 = sym (to_z-of_z f) ∙ ap (to_z w128) c.if-divisor-eq1.true in
    let g : SFits w128 c.args.value = search rules in
    to_z-of_z g ∙ sym (ap (λ z. divided (unsigned_abs z) c.args.value) e ∙ divided-one c.args.value)
