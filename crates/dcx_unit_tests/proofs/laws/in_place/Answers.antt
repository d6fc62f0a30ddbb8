-- The monotonicity law, where no entry moves.
use Rattle.std.proofs.Common.{[], inl}
use Rattle.dcx_unit_tests.proofs.laws.in_place.Goals as goal

pub returns : goal.returns
returns g c args sides is j below a b same =
    g.met.A.Atom.monotonicity c.args.atom.now args sides is j below [] a b (λ i k. record { nonneg = λ f. cc; nonpos = λ f. cc }) (λ i k. inl (same i k))
