-- The part so far is sound, and has the nodes of the order that are passed, renamed.
use Rattle.std.proofs.Common.{◌≡◌, length}
use Rattle.dcx_arena.specs.Chains.{nodes_of, nodes_in, IsSound}
use Rattle.dcx_arena.specs.Gather.{AreRenamed}
use Rattle.dcx_arena.proofs.gather.part_of.Given as goal

abbrev pub invariant-loop-node : goal.invariant-loop-node
invariant-loop-node g l = record {
  sound : IsSound g.C.Operator.gives g.C.Operator.bucket_of l.part;
  renamed : AreRenamed (nodes_of l.store.cells.items l.store.stored.items) l.finished.order.items (nodes_in l.part);
  count : length (nodes_in l.part) ≡ l.node-index;
}
