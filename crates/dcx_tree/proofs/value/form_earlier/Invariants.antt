-- The values of the reached nodes so far.
use Rattle.dcx_tree.proofs.Forming.{HasFormed}
use Rattle.dcx_tree.proofs.value.form_earlier.Given as goal

abbrev pub invariant-loop-i : goal.invariant-loop-i
invariant-loop-i l = HasFormed l.tree l.setting l.point l.fn.node.0 l.i l.arrays.items
