-- So many slopes stand in order.
use Rattle.std.proofs.Common.{◌≡◌, map, take}
use Rattle.dcx_frac.specs.Frac.{value}
use Rattle.dcx_atom.specs.Bounding.{outward}
use Rattle.dcx_fold.proofs.largest.turned.Given as goal

abbrev pub invariant-loop-weight : goal.invariant-loop-weight
invariant-loop-weight l = map value l.slopes.items ≡ map (λ w. outward l.bend (value w)) (take l.weight-index l.weights)
