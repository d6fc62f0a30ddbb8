-- A number times the other over their divisor is the least common multiple, and it is too large where the product is.
use Rattle.std.proofs.Common.{◌<◌, sym, subst, ◌∙◌, arith}
use Rattle.dcx_math.proofs.Divisors.{gcd-pos}
use Rattle.dcx_std.proofs.Multiples.{multiple_is}
use Rattle.dcx_std.proofs.multiple.multiple.Goals as goal

pub nonzero_div-b : goal.nonzero_div-b
nonzero_div-b c = subst (λ n. 0 < n) (sym c.gcd.ensures) (gcd-pos c.args.a c.args.b c.requires)

pub returns-in_err-product : goal.returns-in_err-product
returns-in_err-product c =
    let e = multiple_is c.args.a c.args.b c.gcd.result c.gcd.ensures in
    rw c.from_residual.ensures (λ h. c.in_err-product.ensures {u = tt} (omega (arith, e, h)))

pub returns-then-product-gt-LARGEST : goal.returns-then-product-gt-LARGEST
returns-then-product-gt-LARGEST c =
    let e = multiple_is c.args.a c.args.b c.gcd.result c.gcd.ensures in
    let f = (c.in_ok-product.ensures {u = tt}).1 in
    λ h. absurd (omega (arith, e, f, h))

pub returns-else-product-gt-LARGEST : goal.returns-else-product-gt-LARGEST
returns-else-product-gt-LARGEST c =
    let e = multiple_is c.args.a c.args.b c.gcd.result c.gcd.ensures in
    let f = (c.in_ok-product.ensures {u = tt}).1 in
    (omega (arith, e, f), f ∙ e)
