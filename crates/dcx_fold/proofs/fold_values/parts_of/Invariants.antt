-- So many parts stand in order.
use Rattle.std.proofs.Common.{◌≡◌, map}
use Rattle.dcx_frac.specs.Frac.{value}
use Rattle.dcx_atom.specs.Axis.{stride_entry}
use Rattle.dcx_atom.specs.Arrays.{list_below, number_at}
use Rattle.dcx_fold.specs.Folds.{part}
use Rattle.dcx_fold.proofs.fold_values.parts_of.Given as goal

abbrev pub invariant-loop-i : goal.invariant-loop-i
invariant-loop-i l = map value l.parts.items ≡ list_below l.i (λ i. part l.fold (number_at l.numbers (stride_entry l.stride i)))
