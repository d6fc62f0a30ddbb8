-- The first places are kept where they are marked.
use Rattle.dcx_cert_values.proofs.Left.{IsKeptSoFar}
use Rattle.dcx_cert_values.proofs.marks.keep_marked.Given as goal

abbrev pub invariant-loop-i : goal.invariant-loop-i
invariant-loop-i l = IsKeptSoFar l.marks l.fn.arrays.items l.i l.arrays.items
