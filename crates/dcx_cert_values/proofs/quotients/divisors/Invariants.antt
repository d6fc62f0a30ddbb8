-- The nodes before passed their checks.
use Rattle.dcx_cert_values.proofs.Dividing.{AreBelowDivisors, HavePassed}
use Rattle.dcx_cert_values.proofs.quotients.divisors.Given as goal

abbrev pub invariant-loop-i : goal.invariant-loop-i
invariant-loop-i l = record {
  below : AreBelowDivisors l.problem l.setting l.marks.items l.fn.values;
  passed : HavePassed l.problem l.setting l.marks.items l.fn.values l.i l.values;
}
