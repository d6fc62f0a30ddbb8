-- The numbers so far stand for the nodes that are passed.
use Rattle.std.proofs.Common.{take}
use Rattle.dcx_arena.specs.Nodes.{positions}
use Rattle.dcx_arena.specs.Gather.{StandFor}
use Rattle.dcx_arena.proofs.gather.numbers_of.Given as goal

abbrev pub invariant-loop-node : goal.invariant-loop-node
invariant-loop-node l = StandFor l.finished.order.items (positions l.numbers.items) (take l.node-index (positions l.nodes))
