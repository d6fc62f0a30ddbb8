-- So many groups are folded.
use Rattle.std.proofs.Common.{◌≡◌, ℕ, ◌<◌, map, IsOk}
use Rattle.dcx_frac.specs.Frac.{value}
use Rattle.dcx_shape.specs.Shape.{sides_of}
use Rattle.dcx_atom.specs.Arrays.{list_below, number_at}
use Rattle.dcx_atom.specs.Formed.{sum_in_order}
use Rattle.dcx_fold.specs.Folds.{parts, fold_of, fold_summands}
use Rattle.dcx_fold.proofs.fold_values.group_values.Given as goal

abbrev pub invariant-loop-entry : goal.invariant-loop-entry
invariant-loop-entry l = record {
  entries : map value l.entries.items ≡ list_below l.entry (λ k. fold_of l.folding.fold (parts l.folding.fold l.folding.axis (sides_of l.x.shape) (number_at l.x.entries) k));
  forms : (k : ℕ) → k < l.entry → IsOk (sum_in_order (fold_summands l.folding.fold (parts l.folding.fold l.folding.axis (sides_of l.x.shape) (number_at l.x.entries) k)));
}
