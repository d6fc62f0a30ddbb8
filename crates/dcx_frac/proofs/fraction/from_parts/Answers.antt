-- The parts are coprime and fit.
use Rattle.std.proofs.Common.{arith, ◌<◌, ◌^◌, unsigned_abs}
use Rattle.std.proofs.lemmas.Int.{ints}
use Rattle.dcx_frac.proofs.Bits.{back}
use Rattle.dcx_frac.proofs.fraction.from_parts.Goals as goal

pub invariant_of-result : goal.invariant_of-result
invariant_of-result c =
    let n : unsigned_abs c.with_sign.result < 2 ^ 127 = omega arith in
    let d : unsigned_abs c.with_sign-2.result < 2 ^ 127 = omega arith in
    simp (back c.with_sign.result n, back c.with_sign-2.result d) record {
      positive = omega (arith, ints);
      lowest = rw (c.with_sign.ensures.size, c.with_sign-2.ensures.size) c.requires.coprime;
      num_fits = n;
      den_fits = d;
    }
