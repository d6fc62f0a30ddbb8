-- Which numbers fit in 128 bits: magnitudes of at most 2 ^ 127 - 1.
use Rattle.std.specs.Prelude.{ℕ, Bool, true, false, ◌<◌, ◌^◌, ℤ, pos, neg_ℤ, unsigned_abs}
use Rattle.dcx_math.specs.Rational.{ℚ}
use Rattle.dcx_math.specs.LowestTerms.{IsInLowestTerms}
use Rattle.dcx_math.proofs.LowestTerms.{lowest_terms_unique}
use Rattle.std.proofs.Common.{subst}

-- z is at most 2 ^ 127 - 1 in magnitude
abbrev pub Fits : ℤ → Type 0
Fits z = unsigned_abs z < 2 ^ 127

-- both parts of x in lowest terms fit
pub record IsRepresentable (x : ℚ) : Type 0 where
  pub fits : (num den : ℤ) → IsInLowestTerms x num den → Fits num × Fits den

-- a number with parts in lowest terms that fit is representable
pub representable : (x : ℚ) (num den : ℤ) → IsInLowestTerms x num den → Fits num → Fits den → IsRepresentable x
representable x num den lowest num_fits den_fits = record {
  fits = λ n d other. let same = lowest_terms_unique x num den n d lowest other in (subst Fits same.0 num_fits, subst Fits same.1 den_fits);
}

-- the integer of this sign and size
abbrev pub signed : Bool → ℕ → ℤ
signed true size = neg_ℤ (pos size)
signed false size = pos size
