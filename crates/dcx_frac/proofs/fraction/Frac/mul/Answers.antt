-- The product that is found is the answer, and where none fits, what was asked is told.
use Rattle.std.specs.Option.{ok_or}
use Rattle.std.proofs.Common.{◌∙◌, ap}
use Rattle.dcx_math.specs.Rational.{◌*ℚ◌}
use Rattle.dcx_frac.specs.declared.fraction.Op.TheVariants.{Mul}
use Rattle.dcx_frac.specs.Frac.{value}
use Rattle.dcx_frac.proofs.Results.{found_is, is_product_of}
use Rattle.dcx_frac.proofs.fraction.Frac.mul.Goals as goal

pub returns : goal.returns
returns c =
    let x = c.args.self in
    let y = c.args.other in
    let a = found_is Mul x y (value x *ℚ value y) (λ fit. fit) c.product.result c.ok_or.result
    (c.ok_or.ensures.value ∙ ap (ok_or c.product.result) c.passing.ensures) c.product.ensures.exists c.product.ensures.value in
    record { product = a.exact; fits = a.fits; told = a.told; answer = is_product_of x y c.ok_or.result a }
