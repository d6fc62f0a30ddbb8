-- So many places, without values.
use Rattle.std.proofs.Common.{◌≡◌, ℕ, None, length}
use Rattle.dcx_tree.specs.Values.{array_at}
use Rattle.dcx_cert_values.proofs.table.Values.new.Given as goal

abbrev pub invariant-loop-i : goal.invariant-loop-i
invariant-loop-i l = record {
  count : length l.arrays.items ≡ l._i;
  none : (i : ℕ) → array_at l.arrays.items i ≡ None;
}
