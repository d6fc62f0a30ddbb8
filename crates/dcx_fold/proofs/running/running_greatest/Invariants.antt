-- The greatest so far, and those at each number before.
use Rattle.std.proofs.Common.{◌≡◌, map, take}
use Rattle.dcx_frac.specs.Frac.{value}
use Rattle.dcx_atom.specs.declared.flags.Bend.TheVariants.{Convex}
use Rattle.dcx_atom.specs.Arrays.{list_below, number_at}
use Rattle.dcx_atom.specs.Farthest.{extreme_from}
use Rattle.dcx_fold.specs.Running.{greatest_so_far}
use Rattle.dcx_fold.proofs.running.running_greatest.Given as goal

abbrev pub invariant-loop-number : goal.invariant-loop-number
invariant-loop-number l = record {
  far : value l.far ≡ extreme_from Convex (value l.initial.far) (map value (take l.number-index l.numbers));
  list : map value l.list.items ≡ list_below l.number-index (greatest_so_far (number_at l.numbers));
}
