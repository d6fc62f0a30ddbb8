-- So many groups have no stop, and their slopes stand in order.
use Rattle.std.proofs.Common.{◌≡◌, [], ◌∷◌, map}
use Rattle.dcx_frac.specs.Frac.{value}
use Rattle.dcx_shape.specs.Shape.{sides_of}
use Rattle.dcx_atom.specs.Arrays.{list_below, joined_below}
use Rattle.dcx_atom.specs.Axis.{folded_count}
use Rattle.dcx_atom.specs.Formed.{exact}
use Rattle.dcx_atom.specs.Steps.{weights_of}
use Rattle.dcx_atom.specs.Bounding.{HaveNoStop}
use Rattle.dcx_fold.specs.Folds.{member_weights, member_slope, fold_meaning}
use Rattle.dcx_fold.proofs.fold_slopes.slopes_by_group.Given as goal

abbrev pub invariant-loop-entry : goal.invariant-loop-entry
invariant-loop-entry l = record {
  stops : HaveNoStop (fold_meaning l.folding.fold l.folding.axis) (sides_of l.fn.from ∷ []) l.entry l.coefficients l.weights;
  slopes : map value l.slopes.items ≡ joined_below l.entry (λ k. list_below (folded_count l.folding.axis (sides_of l.fn.from)) (λ i. exact
      (member_slope l.folding.fold (member_weights l.folding.fold (weights_of (fold_meaning l.folding.fold l.folding.axis) (sides_of l.fn.from ∷ []) l.weights k) i))));
}
