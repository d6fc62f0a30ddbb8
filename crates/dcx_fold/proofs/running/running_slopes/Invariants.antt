-- So many entries have no stop, and their slopes stand in order.
use Rattle.std.proofs.Common.{◌≡◌, [], ◌∷◌, map}
use Rattle.dcx_frac.specs.Frac.{value}
use Rattle.dcx_shape.specs.declared.shape.Sides.TheVariants.{Vector}
use Rattle.dcx_atom.specs.Arrays.{list_below}
use Rattle.dcx_atom.specs.Bounding.{HaveNoStop}
use Rattle.dcx_fold.specs.Running.{running_weights, running_meaning}
use Rattle.dcx_fold.proofs.running.running_slopes.Given as goal

abbrev pub invariant-loop-entry : goal.invariant-loop-entry
invariant-loop-entry l = record {
  stops : HaveNoStop running_meaning (Vector l.fn.size ∷ []) l.entry l.coefficients l.weights;
  slopes : map value l.slopes.items ≡ list_below l.entry (λ e. running_weights l.weights e 0);
}
