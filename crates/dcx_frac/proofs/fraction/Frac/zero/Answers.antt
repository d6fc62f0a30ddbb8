-- 0 is 0 / 1.
use Rattle.std.proofs.Common.{arith, refl}
use Rattle.std.proofs.lemmas.Int.{ints}
use native.Mathlib.Nat.{eq-one_of_dvd-one}
use Rattle.dcx_frac.proofs.Turns.{over_one}
use Rattle.dcx_frac.proofs.fraction.Frac.zero.Goals as goal

pub invariant_of-result : goal.invariant_of-result
invariant_of-result c = record { positive = omega (arith, ints); lowest = λ d z h. eq-one_of_dvd-one h; num_fits = omega arith; den_fits = omega arith }

pub returns : goal.returns
returns c = over_one _ _ _ _ refl refl
