-- The slopes of so many members are formed and added.
use Rattle.std.proofs.Common.{◌≡◌, ◌++◌, map, None}
use Rattle.dcx_frac.specs.Frac.{value}
use Rattle.dcx_atom.specs.Arrays.{list_below, number_at}
use Rattle.dcx_atom.specs.Formed.{exact}
use Rattle.dcx_atom.specs.Steps.{first_stop}
use Rattle.dcx_fold.specs.Folds.{member_weights, member_slope, group_slopes}
use Rattle.dcx_fold.proofs.fold_slopes.push_group.Given as goal

abbrev pub invariant-loop-i : goal.invariant-loop-i
invariant-loop-i l = record {
  stop : first_stop l.entry (group_slopes l.fold l.i (number_at l.weights)) ≡ None;
  slopes : map value l.slopes.items ≡ map value l.fn.slopes.items ++ list_below l.i (λ i. exact (member_slope l.fold (member_weights l.fold (number_at l.weights) i)));
}
