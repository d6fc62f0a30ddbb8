-- The sum that is found is the answer, and where none fits, what was asked is told.
use Rattle.std.specs.Option.{ok_or}
use Rattle.std.proofs.Common.{◌∙◌, ap}
use Rattle.dcx_math.specs.Rational.{◌+ℚ◌}
use Rattle.dcx_frac.specs.declared.fraction.Op.TheVariants.{Add}
use Rattle.dcx_frac.specs.Frac.{value}
use Rattle.dcx_frac.proofs.Turns.{sum_representable}
use Rattle.dcx_frac.proofs.Results.{found_is, is_sum_of}
use Rattle.dcx_frac.proofs.fraction.Frac.add.Goals as goal

pub returns : goal.returns
returns c =
    let x = c.args.self in
    let y = c.args.other in
    let a = found_is Add x y (value x +ℚ value y) (sum_representable x y) c.sum.result c.ok_or.result
    (c.ok_or.ensures.value ∙ ap (ok_or c.sum.result) c.passing.ensures) c.sum.ensures.exists c.sum.ensures.value in
    record { sum = a.exact; fits = a.fits; told = a.told; answer = is_sum_of x y c.ok_or.result a }
