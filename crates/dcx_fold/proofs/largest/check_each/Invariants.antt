-- So many weights have no stop.
use Rattle.std.proofs.Common.{◌≡◌, None, map, take}
use Rattle.dcx_frac.specs.Frac.{value}
use Rattle.dcx_atom.specs.Steps.{test, first_stop}
use Rattle.dcx_fold.specs.Largest.{each_condition}
use Rattle.dcx_fold.proofs.largest.check_each.Given as goal

abbrev pub invariant-loop-weight : goal.invariant-loop-weight
invariant-loop-weight l = first_stop 0 (map (λ w. test (each_condition l.fn.bend (value l.fn.coefficient) (value w))) (take l.weight-index l.weights)) ≡ None
