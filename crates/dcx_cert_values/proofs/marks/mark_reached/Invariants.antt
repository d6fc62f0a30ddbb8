-- The marks from the last down.
use Rattle.std.proofs.Common.{◌≡◌, ◌≤◌, length}
use Rattle.dcx_cert_values.proofs.Marking.{IsMarkedDown}
use Rattle.dcx_cert_values.proofs.marks.mark_reached.Given as goal

abbrev pub invariant-loop-lowest : goal.invariant-loop-lowest
invariant-loop-lowest l = record {
  count : length l.marks.items ≡ length l.tree;
  most : l.at ≤ l.end;
  down : IsMarkedDown l.tree l.arrays l.fn.marks.items l.end l.at l.marks.items l.lowest;
}

abbrev pub decreases-loop-lowest : goal.decreases-loop-lowest
decreases-loop-lowest l = l.at
