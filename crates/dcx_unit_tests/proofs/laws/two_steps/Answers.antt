-- The recession law at 2: any call two steps along a ray.
use Rattle.std.proofs.Common.{pos}
use Rattle.dcx_math.specs.Rational.{whole}
use Rattle.dcx_math.proofs.Orders.{whole-≤ℤ}
use Rattle.dcx_unit_tests.proofs.laws.two_steps.Goals as goal

pub returns : goal.returns
returns g c args sides is j below a b = g.met.A.Atom.recession c.args.atom.now args sides is j below a b (whole (pos 2)) (whole-≤ℤ (pos 0) (pos 2) (record { le = tt }))
