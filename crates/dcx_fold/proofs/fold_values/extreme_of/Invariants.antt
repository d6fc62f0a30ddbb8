-- The farthest of the first number and of so many others.
use Rattle.std.proofs.Common.{◌≡◌, map, take}
use Rattle.dcx_frac.specs.Frac.{value}
use Rattle.dcx_atom.specs.Farthest.{extreme_from}
use Rattle.dcx_fold.proofs.fold_values.extreme_of.Given as goal

abbrev pub invariant-loop-number : goal.invariant-loop-number
invariant-loop-number l = value l.far ≡ extreme_from l.bend (value l.initial.far) (map value (take l.number-index l.rest))
