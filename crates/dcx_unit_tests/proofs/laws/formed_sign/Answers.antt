-- The sign law, and that the value is the sum of its summands.
use Rattle.std.proofs.Common.{subst, pos}
use Rattle.dcx_math.specs.Rational.{whole, ◌≤ℚ◌}
use Rattle.dcx_unit_tests.proofs.laws.formed_sign.Goals as goal

pub returns : goal.returns
returns g c args sides is j below signs a count have nonneg =
    let law = g.met.A.Atom in
    subst (λ x. whole (pos 0) ≤ℚ x) (law.formation c.args.atom.now args sides is j below a) ((law.sign_law c.args.atom.now args sides is j below signs a count have).nonneg nonneg)
