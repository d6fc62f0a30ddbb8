-- A fraction with its sign turned.
use Rattle.std.specs.Prelude.{neg_ℤ, unsigned_abs, ◌<◌, ◌^◌}
use Rattle.std.proofs.Common.{sym, subst}
use Rattle.dcx_math.specs.Divisors.{IsCoprime}
use Rattle.dcx_math.proofs.IntegerLaws.{unsigned_abs-neg}
use Rattle.dcx_frac.specs.declared.fraction.Frac.{Frac}

-- -n / d of n / d
unfoldable pub negated : Frac → Frac
negated f =
    let size = sym (unsigned_abs-neg f.num) in
    record {
      num = neg_ℤ f.num;
      den = f.den;
      positive = f.positive;
      lowest = subst (λ n. IsCoprime n (unsigned_abs f.den)) size f.lowest;
      num_fits = subst (λ n. n < 2 ^ 127) size f.num_fits;
      den_fits = f.den_fits;
    }
