-- The end stands above those of the ids so far that aren't kept.
use Rattle.std.proofs.Common.{◌≡◌, ℕ, ◌<◌, ◌≤◌, true, None, take}
use Rattle.dcx_arena.specs.Nodes.{positions}
use Rattle.dcx_arena.specs.Gather.{has}
use Rattle.dcx_tree.specs.Values.{array_at}
use Rattle.dcx_cert_values.proofs.marks.end_of.Given as goal

abbrev pub invariant-loop-id : goal.invariant-loop-id
invariant-loop-id l = record {
  most : l.end ≤ l.nodes;
  above : (j : ℕ) → has (take l.id-index (positions l.ids)) j ≡ true → array_at l.arrays j ≡ None → j < l.end;
}
