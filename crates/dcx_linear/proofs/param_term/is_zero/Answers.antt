-- The fraction is tested by its value.
use Rattle.std.proofs.Common.{pos}
use Rattle.dcx_math.specs.Rational.{whole}
use Rattle.dcx_math.proofs.Ratios.{IsTrue-rat_eq}
use Rattle.dcx_frac.specs.Frac.{value}
use Rattle.dcx_linear.proofs.Keys.{same_bool}
use Rattle.dcx_linear.proofs.param_term.is_zero.Goals as goal

pub returns : goal.returns
returns c = same_bool _ _ c.is_zero.ensures (IsTrue-rat_eq (value c.args.x.now) (whole (pos 0)))
