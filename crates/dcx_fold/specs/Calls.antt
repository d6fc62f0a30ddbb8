-- What each call of this crate is, and that it keeps the laws.
use Rattle.std.specs.Prelude.{ℕ}
use Rattle.dcx_atom.specs.declared.axis.Axis.{Axis}
use Rattle.dcx_atom.specs.declared.flags.Bend.{Bend}
use Rattle.dcx_atom.specs.declared.flags.Bend.TheVariants.{Convex, Concave}
use Rattle.dcx_atom.specs.Meaning.{Meaning}
use Rattle.dcx_atom.specs.Lawful.{IsLawful}
use Rattle.dcx_fold.specs.declared.folding.Fold.{Fold}
use Rattle.dcx_fold.specs.declared.folding.Fold.TheVariants.{Max, Min, Norm1, NormInf}
use Rattle.dcx_fold.specs.Folds.{fold_meaning}
use Rattle.dcx_fold.specs.FoldLaws.{fold_formation, fold_sign_law, fold_monotonicity, fold_curvature, fold_soundness, fold_tightness, fold_subgradient, fold_recession}
use Rattle.dcx_fold.specs.FoldDualLaws.{fold_duality}
use Rattle.dcx_fold.specs.Largest.{largest_meaning}
use Rattle.dcx_fold.specs.LargestLaws.{largest_formation, largest_sign_law, largest_monotonicity, largest_curvature, largest_soundness, largest_tightness, largest_subgradient, largest_recession}
use Rattle.dcx_fold.specs.LargestDualLaws.{largest_duality}
use Rattle.dcx_fold.specs.Running.{running_meaning}
use Rattle.dcx_fold.specs.RunningLaws.{running_formation, running_sign_law, running_monotonicity, running_curvature, running_soundness, running_tightness, running_subgradient, running_recession}
use Rattle.dcx_fold.specs.RunningDualLaws.{running_duality}
use Rattle.dcx_fold.specs.OwnLaws.{fold_own, largest_own, running_own}
use Rattle.dcx_fold.specs.FractionLaws.{fold_fraction_summands, fold_fraction_coefficients, fold_fraction_slopes}
use Rattle.dcx_fold.specs.FractionLaws.{largest_fraction_summands, largest_fraction_coefficients, largest_fraction_slopes}
use Rattle.dcx_fold.specs.FractionLaws.{running_fraction_summands, running_fraction_coefficients, running_fraction_slopes}

fold_lawful : (fold : Fold) (axis : Axis) → IsLawful (fold_meaning fold axis)
fold_lawful fold axis = record {
  formation = fold_formation fold axis;
  sign = fold_sign_law fold axis;
  monotonicity = fold_monotonicity fold axis;
  curvature = fold_curvature fold axis;
  soundness = fold_soundness fold axis;
  tightness = fold_tightness fold axis;
  subgradient = fold_subgradient fold axis;
  recession = fold_recession fold axis;
  own_unknowns = fold_own fold axis;
  duality = fold_duality fold axis;
  fraction_summands = fold_fraction_summands fold axis;
  fraction_coefficients = fold_fraction_coefficients fold axis;
  fraction_slopes = fold_fraction_slopes fold axis;
}

abbrev pub max_of_meaning : Axis → Meaning
max_of_meaning axis = fold_meaning Max axis

pub max_of_lawful : (axis : Axis) → IsLawful (max_of_meaning axis)
max_of_lawful axis = fold_lawful Max axis

abbrev pub min_of_meaning : Axis → Meaning
min_of_meaning axis = fold_meaning Min axis

pub min_of_lawful : (axis : Axis) → IsLawful (min_of_meaning axis)
min_of_lawful axis = fold_lawful Min axis

abbrev pub norm1_meaning : Axis → Meaning
norm1_meaning axis = fold_meaning Norm1 axis

pub norm1_lawful : (axis : Axis) → IsLawful (norm1_meaning axis)
norm1_lawful axis = fold_lawful Norm1 axis

abbrev pub norm_inf_meaning : Axis → Meaning
norm_inf_meaning axis = fold_meaning NormInf axis

pub norm_inf_lawful : (axis : Axis) → IsLawful (norm_inf_meaning axis)
norm_inf_lawful axis = fold_lawful NormInf axis

largest_lawful : (bend : Bend) (k : ℕ) → IsLawful (largest_meaning bend k)
largest_lawful bend k = record {
  formation = largest_formation bend k;
  sign = largest_sign_law bend k;
  monotonicity = largest_monotonicity bend k;
  curvature = largest_curvature bend k;
  soundness = largest_soundness bend k;
  tightness = largest_tightness bend k;
  subgradient = largest_subgradient bend k;
  recession = largest_recession bend k;
  own_unknowns = largest_own bend k;
  duality = largest_duality bend k;
  fraction_summands = largest_fraction_summands bend k;
  fraction_coefficients = largest_fraction_coefficients bend k;
  fraction_slopes = largest_fraction_slopes bend k;
}

abbrev pub sum_largest_meaning : ℕ → Meaning
sum_largest_meaning k = largest_meaning Convex k

pub sum_largest_lawful : (k : ℕ) → IsLawful (sum_largest_meaning k)
sum_largest_lawful k = largest_lawful Convex k

abbrev pub sum_smallest_meaning : ℕ → Meaning
sum_smallest_meaning k = largest_meaning Concave k

pub sum_smallest_lawful : (k : ℕ) → IsLawful (sum_smallest_meaning k)
sum_smallest_lawful k = largest_lawful Concave k

abbrev pub cum_max_meaning : Meaning
cum_max_meaning = running_meaning

pub cum_max_lawful : IsLawful cum_max_meaning
cum_max_lawful = record {
  formation = running_formation;
  sign = running_sign_law;
  monotonicity = running_monotonicity;
  curvature = running_curvature;
  soundness = running_soundness;
  tightness = running_tightness;
  subgradient = running_subgradient;
  recession = running_recession;
  own_unknowns = running_own;
  duality = running_duality;
  fraction_summands = running_fraction_summands;
  fraction_coefficients = running_fraction_coefficients;
  fraction_slopes = running_fraction_slopes;
}
