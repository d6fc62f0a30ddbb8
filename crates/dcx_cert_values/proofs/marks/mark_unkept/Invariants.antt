-- Of the ids so far those that aren't kept are marked.
use Rattle.dcx_cert_values.proofs.Marking.{IsMarkedSoFar}
use Rattle.dcx_cert_values.proofs.marks.mark_unkept.Given as goal

abbrev pub invariant-loop-id : goal.invariant-loop-id
invariant-loop-id l = IsMarkedSoFar l.arrays l.ids l.fn.marks.items l.id-index l.marks.items l.lowest
