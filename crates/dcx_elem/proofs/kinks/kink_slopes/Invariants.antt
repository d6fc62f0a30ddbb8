-- So many entries have no stop, and their slopes stand in order.
use Rattle.std.proofs.Common.{◌≡◌, ℕ, ◌<◌, None, map, [], ◌∷◌}
use Rattle.dcx_frac.specs.Frac.{value}
use Rattle.dcx_shape.specs.Shape.{sides_of}
use Rattle.dcx_atom.specs.Arrays.{list_below, number_at}
use Rattle.dcx_atom.specs.Formed.{exact}
use Rattle.dcx_atom.specs.Steps.{entry_stop, weights_of}
use Rattle.dcx_elem.specs.Kinks.{kink_slope, kink_meaning}
use Rattle.dcx_elem.proofs.kinks.kink_slopes.Given as goal

abbrev pub invariant-loop-entry : goal.invariant-loop-entry
invariant-loop-entry l = record {
  stops : (k : ℕ) → k < l.entry
      → entry_stop (kink_meaning l.kink) (sides_of l.fn.shape ∷ []) (number_at l.coefficients) (weights_of (kink_meaning l.kink) (sides_of l.fn.shape ∷ []) l.weights) k ≡ None;
  slopes : map value l.slopes.items ≡ list_below l.entry (λ e. exact (kink_slope l.kink (weights_of (kink_meaning l.kink) (sides_of l.fn.shape ∷ []) l.weights e)));
}
