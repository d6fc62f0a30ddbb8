-- The first so many pairs have no stop.
use Rattle.std.proofs.Common.{◌≡◌, ◌+◌, ◌*◌, None}
use Rattle.dcx_frac.specs.Frac.{value}
use Rattle.dcx_atom.specs.declared.graph.AuxKind.TheVariants.{Nonneg}
use Rattle.dcx_atom.specs.Arrays.{list_below, number_at}
use Rattle.dcx_atom.specs.Steps.{test, first_stop}
use Rattle.dcx_atom.specs.Bounding.{total_condition}
use Rattle.dcx_fold.proofs.fold_slopes.check_pairs.Given as goal

abbrev pub invariant-loop-i : goal.invariant-loop-i
invariant-loop-i l = first_stop l.entry (list_below l.i (λ i. test (total_condition Nonneg (value l.coefficient) (list_below 2 (λ f. number_at l.weights (i * 2 + f)))))) ≡ None
