-- What is finished, and then what the roots that are left reach, is the order of all roots.
use Rattle.std.proofs.Common.{◌≡◌, drop}
use Rattle.std.specs.List.{flat_map}
use Rattle.dcx_arena.specs.Nodes.{positions}
use Rattle.dcx_arena.specs.Chains.{nodes_of}
use Rattle.dcx_arena.specs.Gather.{with_all, postorder, order_of}
use Rattle.dcx_arena.specs.Walk.{IsFinished}
use Rattle.dcx_arena.proofs.walk.finish_all.Given as goal

abbrev pub invariant-loop-root : goal.invariant-loop-root
invariant-loop-root g l = record {
  finished : IsFinished (nodes_of l.store.cells.items l.store.stored.items) l.finished;
  order : with_all l.finished.order.items (flat_map (postorder (nodes_of l.store.cells.items l.store.stored.items)) (drop l.root-index (positions l.roots)))
      ≡ order_of (nodes_of l.store.cells.items l.store.stored.items) (positions l.roots);
}
