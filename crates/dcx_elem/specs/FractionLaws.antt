-- The numbers of these calls are fractions of 128 bits: what they sum at fractions, the coefficients of their graphs, and their slopes.
use Rattle.std.proofs.Common.{◌≡◌, ◌<◌, [], ◌∷◌, ℕ, None, ap, ◌∙◌, subst, pos}
use Rattle.std.specs.List.{AllByRecursion}
use Rattle.std.proofs.lemmas.List.Elements.{All-cons, All-nil, All-head}
use Rattle.dcx_math.specs.Rational.{ℚ, whole, neg_ℚ}
use Rattle.dcx_frac.specs.Fits.{IsRepresentable}
use Rattle.dcx_shape.specs.Sides.{entries_of}
use Rattle.dcx_atom.specs.declared.flags.Bend.{Bend}
use Rattle.dcx_atom.specs.declared.flags.Bend.TheVariants.{Convex}
use Rattle.dcx_atom.specs.Arrays.{sides_at}
use Rattle.dcx_atom.specs.Formed.{formed}
use Rattle.dcx_atom.specs.Meaning.{ArgumentEntry}
use Rattle.dcx_atom.specs.Bounding.{argument_term, bound_row, only_is}
use Rattle.dcx_atom.specs.Steps.{slope_stop, weights_of}
use Rattle.dcx_atom.specs.Fractions.{HasFractionSummands, FitsRow, HasFractionCoefficients, HasFractionSlopes}
use Rattle.dcx_atom.proofs.Fractions.{zero_fits, number_fits, one_fits, minus_one_fits, negative_fits, outward_fits, greater_fits, magnitude_fits, extreme_below_fits}
use Rattle.dcx_atom.proofs.Coefficients.{all_below, bound_fits, bounds_fit}
use Rattle.dcx_atom.proofs.Slopes.{difference_fits, entry_formed, only_first}
use Rattle.dcx_elem.specs.declared.kinks.Kink.{Kink}
use Rattle.dcx_elem.specs.declared.kinks.Kink.TheVariants.{Abs, Pos, Neg}
use Rattle.dcx_elem.specs.Kinks.{kink_at, kink_factors, kink_meaning}
use Rattle.dcx_elem.specs.Extremes.{extreme_meaning}

-- ---- the magnitude and the parts above and below 0
kink_fits : (p : Kink) (x : ℚ) → IsRepresentable x → IsRepresentable (kink_at p x)
kink_fits Abs x h = magnitude_fits x h
kink_fits Pos x h = greater_fits x (whole (pos 0)) h zero_fits
kink_fits Neg x h = greater_fits (neg_ℚ x) (whole (pos 0)) (negative_fits x h) zero_fits

pub kink_fraction_summands : (p : Kink) → HasFractionSummands (kink_meaning p)
kink_fraction_summands p args a j h = All-cons IsRepresentable (kink_at p (a 0 j)) [] (kink_fits p (a 0 j) (h 0 j)) (All-nil IsRepresentable)

factors_fit : (p : Kink) → AllByRecursion IsRepresentable (kink_factors p)
factors_fit Abs = (one_fits, (minus_one_fits, tt))
factors_fit Pos = (one_fits, tt)
factors_fit Neg = (minus_one_fits, tt)

pub kink_fraction_coefficients : (p : Kink) → HasFractionCoefficients (kink_meaning p)
kink_fraction_coefficients p = record {
  rows = λ args j. bounds_fit Convex j 0 j (kink_factors p) (factors_fit p);
  results = λ args sides j is few. (one_fits, tt);
}

pub kink_fraction_slopes : (p : Kink) → HasFractionSlopes (kink_meaning p)
kink_fraction_slopes Abs args sides is c ws none k e b l =
    let m = kink_meaning Abs in
    let w = weights_of m args ws in
    let one = only_is args sides is in
    let first = only_first args sides one k b in
    let size : e < entries_of sides = subst (λ r. e < entries_of r) (ap (λ xs. sides_at xs k) one ∙ ap (λ i. sides_at (sides ∷ []) i) first) l in
    difference_fits (w e 0) (w e 1) (number_fits ws _) (number_fits ws _)
    (All-head (λ (y : ArgumentEntry). slope_stop (formed (m.slope args w y.argument y.entry)) ≡ None) (record { argument = 0; entry = e }) [] (entry_formed m args c w e (none e size)))
kink_fraction_slopes Pos args sides is c ws none k e b l = number_fits ws _
kink_fraction_slopes Neg args sides is c ws none k e b l = negative_fits _ (number_fits ws _)

-- ---- the greatest and the least of several arrays
pub extreme_fraction_summands : (bend : Bend) (count : ℕ) → HasFractionSummands (extreme_meaning bend count)
extreme_fraction_summands bend count args a j h = All-cons IsRepresentable _ [] (extreme_below_fits bend count (λ i. a i j) (λ i. h i j)) (All-nil IsRepresentable)

pub extreme_fraction_coefficients : (bend : Bend) (count : ℕ) → HasFractionCoefficients (extreme_meaning bend count)
extreme_fraction_coefficients bend count = record {
  rows = λ args j. all_below FitsRow count (λ i. bound_row bend j (argument_term i j (whole (pos 1)))) (λ i b. bound_fits bend j (argument_term i j (whole (pos 1))) one_fits);
  results = λ args sides j is few. (one_fits, tt);
}

pub extreme_fraction_slopes : (bend : Bend) (count : ℕ) → HasFractionSlopes (extreme_meaning bend count)
extreme_fraction_slopes bend count args sides is c ws none k e b l = outward_fits bend (weights_of (extreme_meaning bend count) args ws e k) (number_fits ws _)
