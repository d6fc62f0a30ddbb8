-- The ids so far are marked.
use Rattle.std.proofs.Common.{◌≡◌, ℕ, ◌⊎◌, ◌↔◌, true, length, take}
use Rattle.dcx_arena.specs.Nodes.{positions}
use Rattle.dcx_arena.specs.Gather.{has}
use Rattle.dcx_tree.specs.Values.{IsMarked}
use Rattle.dcx_tree.proofs.reached.mark_all.Given as goal

abbrev pub invariant-loop-a : goal.invariant-loop-a
invariant-loop-a l = record {
  count : length l.marks.items ≡ length l.fn.marks.items;
  marked : (i : ℕ) → IsMarked l.marks.items i ↔ (IsMarked l.fn.marks.items i ⊎ (has (take l.a-index (positions l.ids)) i ≡ true));
}
