-- A weight above the coefficient is the first broken condition.
use Rattle.std.proofs.Common.{◌≡◌, [], ◌∷◌, refl, sym, ◌∙◌, Some, None, arith}
use Rattle.std.proofs.lemmas.Result.{err_from_is_err_and}
use Rattle.dcx_math.specs.Rational.{rat_le}
use Rattle.dcx_frac.specs.declared.fraction.Frac.{Frac}
use Rattle.dcx_frac.specs.Frac.{value}
use Rattle.dcx_shape.specs.declared.shape.Sides.TheVariants.{Scalar}
use Rattle.dcx_atom.specs.declared.stops.SlopeStop.{SlopeStop}
use Rattle.dcx_atom.specs.declared.stops.SlopeStop.TheVariants.{Refused, Passes, Memory}
use Rattle.dcx_atom.specs.Formed.{number}
use Rattle.dcx_atom.specs.Meaning.{at_most}
use Rattle.dcx_atom.specs.Steps.{test, form, is_weight, broken_at, weights_stop, IsSlopeStop, IsFirstStop}
use Rattle.dcx_atom.proofs.FormedSums.{frac_at-value}
use Rattle.dcx_atom.proofs.FirstStops.{first_stop-passed}
use Rattle.dcx_unit_tests.specs.Hinge.{hinge_meaning}
use Rattle.dcx_unit_tests.proofs.laws.hinge_slopes.Goals as goal

first : (c w : Frac) (stop : SlopeStop) → weights_stop 0 (value w ∷ []) ≡ None → Some stop ≡ broken_at 0 (rat_le (value w) (value c)) w c →
    IsFirstStop hinge_meaning (Scalar ∷ []) 1 (c ∷ []) (w ∷ []) stop
first c w stop fine broken = record {
  entry = 0;
  is_entry = omega arith;
  before = λ j b. absurd (omega arith);
  here = first_stop-passed 0 (test (is_weight (value w)) ∷ []) (test (record { left = number (value w); relation = at_most; right = number (value c) }) ∷ form (number (value w)) ∷ []) fine
      ∙ rw (frac_at-value w, frac_at-value c) (rw (sym broken) refl);
}

stopped : (c w : Frac) (stop : SlopeStop) → weights_stop 0 (value w ∷ []) ≡ None → Some stop ≡ broken_at 0 (rat_le (value w) (value c)) w c →
    IsSlopeStop hinge_meaning (Scalar ∷ []) 1 (c ∷ []) (w ∷ []) stop
stopped c w (Refused entry stated found) fine broken = first c w (Refused entry stated found) fine broken
stopped c w (Passes passes) fine broken = first c w (Passes passes) fine broken
stopped c w Memory fine broken = tt

pub returns-in_err-check_at_most-clause-stop : goal.returns-in_err-check_at_most-clause-stop
returns-in_err-check_at_most-clause-stop c =
    let p = err_from_is_err_and c.from_residual-in_err-check_at_most.result c.from_residual-in_err-check_at_most.ensures.1 in
    rw (p.1, p.2) (stopped c.args.coefficient c.args.weight _ (sym c.in_ok-check_weights.ensures) c.in_err-check_at_most.ensures)
