-- The divisors of the quotients so far are marked.
use Rattle.std.proofs.Common.{◌≡◌, length}
use Rattle.dcx_cert_values.proofs.Dividing.{AreDivisorsBelow}
use Rattle.dcx_cert_values.proofs.quotients.divisor_marks.Given as goal

abbrev pub invariant-loop-i : goal.invariant-loop-i
invariant-loop-i l = record {
  count : length l.marks.items ≡ length l.tree;
  marked : AreDivisorsBelow l.tree l.i l.marks.items;
}
