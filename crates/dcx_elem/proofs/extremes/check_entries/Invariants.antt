-- So many entries have no stop.
use Rattle.dcx_atom.specs.Arrays.{sides_list}
use Rattle.dcx_atom.specs.Bounding.{HaveNoStop}
use Rattle.dcx_elem.specs.Extremes.{extreme_meaning}
use Rattle.dcx_elem.proofs.extremes.check_entries.Given as goal

abbrev pub invariant-loop-entry : goal.invariant-loop-entry
invariant-loop-entry l = HaveNoStop (extreme_meaning l.extreme.bend l.extreme.count) (sides_list l.fn.args) l.entry l.coefficients l.weights
