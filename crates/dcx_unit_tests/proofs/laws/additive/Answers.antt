-- The linearity law at 1 and 1: a linear call at a sum.
use Rattle.std.proofs.Common.{pos}
use Rattle.dcx_math.specs.Rational.{whole}
use Rattle.dcx_atom.proofs.LinearSums.{value_combination}
use Rattle.dcx_unit_tests.proofs.laws.additive.Goals as goal

pub returns : goal.returns
returns g c args sides is j below a b =
    value_combination (g.L.LinearOp.meaning c.args.op.now) (g.met.L.LinearOp.linearity c.args.op.now) args sides is j below (whole (pos 1)) (whole (pos 1)) a b
