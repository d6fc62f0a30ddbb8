-- A quotient is the product with the inverse, and forms the same numbers.
use Rattle.std.specs.Option.{ok_or}
use Rattle.std.proofs.Common.{◌∙◌, ap, ◌≡◌, ◌↔◌, subst, IsSome, IfSome}
use Rattle.dcx_frac.specs.Fits.{IsRepresentable}
use Rattle.dcx_math.specs.Rational.{◌/ℚ◌}
use Rattle.dcx_frac.specs.declared.fraction.Op.TheVariants.{Div}
use Rattle.dcx_frac.specs.Frac.{value}
use Rattle.dcx_frac.proofs.Turns.{quotient_value}
use Rattle.dcx_frac.proofs.Results.{found_is, is_quotient_of}
use Rattle.dcx_frac.proofs.fraction.Frac.div.Goals as goal

pub returns : goal.returns
returns c =
    let x = c.args.self in
    let y = c.args.other in
    let q = quotient_value x y c.turned_over.result c.turned_over.ensures in
    let e = subst (λ z. IsSome c.product.result ↔ IsRepresentable z) q c.product.ensures.exists in
    let v = subst (λ z. IfSome c.product.result (λ f. value f ≡ z)) q c.product.ensures.value in
    let a = found_is Div x y (value x /ℚ value y) (λ fit. fit) c.product.result c.ok_or.result (c.ok_or.ensures.value ∙ ap (ok_or c.product.result) c.passing.ensures) e v in
    record { quotient = a.exact; fits = a.fits; told = a.told; answer = is_quotient_of x y c.ok_or.result a }
