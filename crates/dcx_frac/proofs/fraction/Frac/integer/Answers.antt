-- The integer over 1, in lowest terms.
use Rattle.std.proofs.Common.{arith, rules, refl, to_z-of_z}
use Rattle.std.proofs.lemmas.Int.{ints}
use native.Mathlib.Nat.{eq-one_of_dvd-one}
use Rattle.dcx_frac.proofs.Turns.{over_one}
use Rattle.dcx_frac.proofs.fraction.Frac.integer.Goals as goal

pub invariant_of-result : goal.invariant_of-result
invariant_of-result c = record { positive = omega (arith, ints); lowest = λ d m n. eq-one_of_dvd-one n; num_fits = search rules; den_fits = omega arith }

pub returns-clause-value : goal.returns-clause-value
returns-clause-value c = over_one _ _ _ _ (to_z-of_z c.ranges.num) refl
