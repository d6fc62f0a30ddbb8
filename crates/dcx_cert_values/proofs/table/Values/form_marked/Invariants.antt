-- Of the marked nodes before, the values are kept.
use Rattle.dcx_cert_values.proofs.Keeping.{AreKeptSoFar}
use Rattle.dcx_cert_values.proofs.table.Values.form_marked.Given as goal

abbrev pub invariant-loop-i : goal.invariant-loop-i
invariant-loop-i l = AreKeptSoFar l.problem l.setting l.point l.marks l.fn.self l.i l.self
