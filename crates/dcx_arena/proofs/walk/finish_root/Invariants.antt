-- What is finished, and then what the stack has to do, is what the root reaches; the steps that are left fall.
use Rattle.std.proofs.Common.{◌≡◌}
use Rattle.dcx_arena.specs.Chains.{nodes_of}
use Rattle.dcx_arena.specs.Gather.{with_all, postorder}
use Rattle.dcx_arena.specs.Walk.{IsFinished, AreReady, todo, steps_of}
use Rattle.dcx_arena.proofs.walk.finish_root.Given as goal

abbrev pub invariant-frames : goal.invariant-frames
invariant-frames g l = record {
  finished : IsFinished (nodes_of l.store.cells.items l.store.stored.items) l.finished;
  ready : AreReady l.store.cells.items (nodes_of l.store.cells.items l.store.stored.items) l.finished.order.items l.frames.items;
  order : with_all l.finished.order.items (todo l.store.cells.items (nodes_of l.store.cells.items l.store.stored.items) l.frames.items)
      ≡ with_all l.fn.finished.order.items (postorder (nodes_of l.store.cells.items l.store.stored.items) l.root);
}

abbrev pub decreases-frames : goal.decreases-frames
decreases-frames g l = steps_of l.store.cells.items (nodes_of l.store.cells.items l.store.stored.items) l.frames.items
