-- None of the entries before is 0.
use Rattle.std.proofs.Common.{◌≡◌, ℕ, ◌<◌, pos}
use Rattle.dcx_math.specs.Rational.{whole}
use Rattle.dcx_atom.specs.Arrays.{number_at}
use Rattle.dcx_cert_values.proofs.quotients.test_divisor.Given as goal

abbrev pub invariant-loop-entry : goal.invariant-loop-entry
invariant-loop-entry l = (k : ℕ) → k < l.entry → number_at l.divisor.entries k ≡ whole (pos 0) → ⊥
