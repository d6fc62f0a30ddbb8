-- The farthest of the first number and of so many others.
use Rattle.std.proofs.Common.{◌≡◌, map, take}
use Rattle.dcx_frac.specs.Frac.{value}
use Rattle.dcx_atom.specs.Arrays.{number_at}
use Rattle.dcx_atom.specs.Farthest.{extreme_from}
use Rattle.dcx_elem.proofs.extremes.farthest.Given as goal

abbrev pub invariant-loop-other : goal.invariant-loop-other
invariant-loop-other l = value l.far ≡ extreme_from l.bend (value l.fn.first) (map (λ x. number_at x.entries l.place) (take l.other-index l.others))
