-- A difference is the sum with the negative, and forms the same numbers.
use Rattle.std.specs.Option.{ok_or}
use Rattle.std.proofs.Common.{◌∙◌, ap, ◌≡◌, subst, IfSome}
use Rattle.dcx_math.specs.Rational.{◌-ℚ◌}
use Rattle.dcx_frac.specs.declared.fraction.Op.TheVariants.{Sub}
use Rattle.dcx_frac.specs.Frac.{value}
use Rattle.dcx_frac.proofs.Turns.{difference_representable, difference_value, difference_fits}
use Rattle.dcx_frac.proofs.Results.{found_is, is_difference_of}
use Rattle.dcx_frac.proofs.fraction.Frac.sub.Goals as goal

pub returns : goal.returns
returns c =
    let x = c.args.self in
    let y = c.args.other in
    let d = difference_fits x y c.neg.result c.neg.ensures in
    let e = c.sum.ensures.exists in
    let v = subst (λ z. IfSome c.sum.result (λ f. value f ≡ z)) (difference_value x y c.neg.result c.neg.ensures) c.sum.ensures.value in
    let a = found_is Sub x y (value x -ℚ value y) (difference_representable x y) c.sum.result c.ok_or.result (c.ok_or.ensures.value ∙ ap (ok_or c.sum.result) c.passing.ensures)
    (λ s. d.0 (e.0 s), λ h. e.1 (d.1 h)) v in
    record { difference = a.exact; fits = a.fits; told = a.told; answer = is_difference_of x y c.ok_or.result a }
