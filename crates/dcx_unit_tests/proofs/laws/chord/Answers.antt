-- The curvature law at the weights 1/2 and 1/2.
use Rattle.dcx_unit_tests.specs.Uses.{half}
use Rattle.dcx_unit_tests.proofs.Halves.{half_nonnegative, halves}
use Rattle.dcx_unit_tests.proofs.laws.chord.Goals as goal

pub returns : goal.returns
returns g c args sides is j below a b = g.met.A.Atom.curvature c.args.atom.now args sides is j below half half a b half_nonnegative half_nonnegative halves
