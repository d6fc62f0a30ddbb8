-- So many slopes stand in order.
use Rattle.std.proofs.Common.{◌≡◌, ◌+◌, ◌*◌, ◌/◌, ◌%◌, map}
use Rattle.dcx_frac.specs.Frac.{value}
use Rattle.dcx_atom.specs.Arrays.{list_below, number_at}
use Rattle.dcx_atom.specs.Bounding.{outward}
use Rattle.dcx_elem.proofs.extremes.by_argument.Given as goal

abbrev pub invariant-loop-place : goal.invariant-loop-place
invariant-loop-place l = map value l.slopes.items ≡ list_below l.place (λ p. outward l.extreme.bend (number_at l.weights (p % l.size * l.extreme.count + p / l.size)))
