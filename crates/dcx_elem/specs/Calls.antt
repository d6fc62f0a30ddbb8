-- What each call of this crate is, and that it keeps the laws.
use Rattle.std.specs.Prelude.{ℕ}
use Rattle.dcx_atom.specs.declared.flags.Bend.{Bend}
use Rattle.dcx_atom.specs.declared.flags.Bend.TheVariants.{Convex, Concave}
use Rattle.dcx_atom.specs.Meaning.{Meaning}
use Rattle.dcx_atom.specs.Lawful.{IsLawful}
use Rattle.dcx_elem.specs.declared.kinks.Kink.{Kink}
use Rattle.dcx_elem.specs.declared.kinks.Kink.TheVariants.{Abs, Pos, Neg}
use Rattle.dcx_elem.specs.Kinks.{kink_meaning}
use Rattle.dcx_elem.specs.KinkLaws.{kink_formation, kink_sign, kink_monotonicity, kink_curvature, kink_soundness, kink_tightness, kink_subgradient, kink_recession}
use Rattle.dcx_elem.specs.KinkDualLaws.{kink_duality}
use Rattle.dcx_elem.specs.Extremes.{extreme_meaning}
use Rattle.dcx_elem.specs.ExtremeLaws.{extreme_formation, extreme_sign_law, extreme_monotonicity, extreme_curvature, extreme_soundness, extreme_tightness, extreme_subgradient, extreme_recession}
use Rattle.dcx_elem.specs.ExtremeDualLaws.{extreme_duality}
use Rattle.dcx_elem.specs.OwnLaws.{kink_own, extreme_own}
use Rattle.dcx_elem.specs.FractionLaws.{kink_fraction_summands, kink_fraction_coefficients, kink_fraction_slopes, extreme_fraction_summands, extreme_fraction_coefficients, extreme_fraction_slopes}

kink_lawful : (kink : Kink) → IsLawful (kink_meaning kink)
kink_lawful kink = record {
  formation = kink_formation kink;
  sign = kink_sign kink;
  monotonicity = kink_monotonicity kink;
  curvature = kink_curvature kink;
  soundness = kink_soundness kink;
  tightness = kink_tightness kink;
  subgradient = kink_subgradient kink;
  recession = kink_recession kink;
  own_unknowns = kink_own kink;
  duality = kink_duality kink;
  fraction_summands = kink_fraction_summands kink;
  fraction_coefficients = kink_fraction_coefficients kink;
  fraction_slopes = kink_fraction_slopes kink;
}

extreme_lawful : (bend : Bend) (count : ℕ) → IsLawful (extreme_meaning bend count)
extreme_lawful bend count = record {
  formation = extreme_formation bend count;
  sign = extreme_sign_law bend count;
  monotonicity = extreme_monotonicity bend count;
  curvature = extreme_curvature bend count;
  soundness = extreme_soundness bend count;
  tightness = extreme_tightness bend count;
  subgradient = extreme_subgradient bend count;
  recession = extreme_recession bend count;
  own_unknowns = extreme_own bend count;
  duality = extreme_duality bend count;
  fraction_summands = extreme_fraction_summands bend count;
  fraction_coefficients = extreme_fraction_coefficients bend count;
  fraction_slopes = extreme_fraction_slopes bend count;
}

abbrev pub abs_meaning : Meaning
abs_meaning = kink_meaning Abs

pub abs_lawful : IsLawful abs_meaning
abs_lawful = kink_lawful Abs

abbrev pub pos_meaning : Meaning
pos_meaning = kink_meaning Pos

pub pos_lawful : IsLawful pos_meaning
pos_lawful = kink_lawful Pos

abbrev pub neg_meaning : Meaning
neg_meaning = kink_meaning Neg

pub neg_lawful : IsLawful neg_meaning
neg_lawful = kink_lawful Neg

abbrev pub maximum_meaning : ℕ → Meaning
maximum_meaning count = extreme_meaning Convex count

pub maximum_lawful : (count : ℕ) → IsLawful (maximum_meaning count)
maximum_lawful count = extreme_lawful Convex count

abbrev pub minimum_meaning : ℕ → Meaning
minimum_meaning count = extreme_meaning Concave count

pub minimum_lawful : (count : ℕ) → IsLawful (minimum_meaning count)
minimum_lawful count = extreme_lawful Concave count
