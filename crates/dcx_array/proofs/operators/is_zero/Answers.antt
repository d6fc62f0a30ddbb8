-- The test of a fraction for 0 and that of its value tell the same.
use Rattle.std.proofs.lemmas.Bool.Decides.{same_from_decides}
use Rattle.dcx_math.specs.Rational.{whole, rat_eq}
use Rattle.dcx_math.proofs.Ratios.{IsTrue-rat_eq}
use Rattle.dcx_frac.specs.Frac.{value}
use Rattle.std.specs.Prelude.{pos}
use Rattle.dcx_array.proofs.operators.is_zero.Goals as goal

pub returns : goal.returns
returns c =
    let tested = IsTrue-rat_eq (value c.args.number.now) (whole (pos 0)) in
    same_from_decides c.is_zero.result (rat_eq (value c.args.number.now) (whole (pos 0))) (c.is_zero.ensures.0, c.is_zero.ensures.1) (tested.0, tested.1)
