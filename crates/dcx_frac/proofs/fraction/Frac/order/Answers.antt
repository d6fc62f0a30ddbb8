-- Over one denominator the numerators compare as the cross products do.
use Rattle.std.proofs.Common.{◌≡◌, ◌*ℤ◌, to_z, sym, ap, ◌∙◌}
use Rattle.std.specs.Ordering.{int_cmp}
use Rattle.std.specs.Int.{w128}
use Rattle.dcx_frac.proofs.Bits.{back}
use Rattle.dcx_frac.proofs.Orders.{same_denominator}
use Rattle.dcx_frac.proofs.fraction.Frac.order.Goals as goal

pub returns-then-self-other : goal.returns-then-self-other
returns-then-self-other c =
    let x = c.args.self in
    let y = c.args.other in
    let same : x.den ≡ y.den = sym (back x.den x.den_fits) ∙ ap (to_z w128) c.if-self-other.true ∙ back y.den y.den_fits in
    c.cmp.ensures ∙ same_denominator x.num y.num x.den x.positive
    ∙ ap (λ d. int_cmp (x.num *ℤ d) (y.num *ℤ x.den)) same
