-- No weight so far stops.
use Rattle.std.proofs.Common.{◌≡◌, None, map, take}
use Rattle.dcx_frac.specs.Frac.{value}
use Rattle.dcx_atom.specs.Steps.{weights_stop}
use Rattle.dcx_atom.proofs.forming.check_weights.Given as goal

abbrev pub invariant-loop-weight : goal.invariant-loop-weight
invariant-loop-weight l = weights_stop l.entry (map value (take l.weight-index l.weights)) ≡ None
