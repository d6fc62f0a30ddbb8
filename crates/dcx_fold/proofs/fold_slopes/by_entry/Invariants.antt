-- So many slopes stand in the order of the entries.
use Rattle.std.proofs.Common.{◌≡◌, ◌+◌, ◌*◌, map}
use Rattle.dcx_frac.specs.Frac.{value}
use Rattle.dcx_shape.specs.Shape.{sides_of}
use Rattle.dcx_atom.specs.Arrays.{list_below, number_at}
use Rattle.dcx_atom.specs.Axis.{folded_count}
use Rattle.dcx_fold.specs.Groups.{group_of, member_of}
use Rattle.dcx_fold.proofs.fold_slopes.by_entry.Given as goal

abbrev pub invariant-loop-e : goal.invariant-loop-e
invariant-loop-e l = map value l.ordered.items
    ≡ list_below l.e (λ e. number_at l.slopes (group_of l.axis (sides_of l.from) e * folded_count l.axis (sides_of l.from) + member_of l.axis (sides_of l.from) e))
