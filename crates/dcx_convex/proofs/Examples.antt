-- The verdicts of the examples, by computation.
use Rattle.std.proofs.Common.{refl}
use Rattle.dcx_math.specs.Rational.{whole, ratio, rat_le}
use std.Quotient.{/_rec₂}
use Rattle.dcx_convex.specs.Rules.{judgement_at}
use Rattle.dcx_convex.specs.Examples.{Verdicts}

pub verdicts : Verdicts
unfolding judgement_at whole ratio rat_le /_rec₂
verdicts = record {
  nested_abs_refused = refl;
  nested_above_accepted = refl;
  zero_times_abs_accepted = refl;
  max_less_max_refused = refl;
  far_from_zero_refused = refl;
  greatest_abs_refused = refl;
  one_parameter_accepted = refl;
  one_parameter_dpp = refl;
  two_parameters_accepted = refl;
  two_parameters_not_dpp = refl;
  over_parameter_accepted = refl;
  over_parameter_not_dpp = refl;
}
