-- The link leads to a node of the bucket, none of the call stands above it, and each turn goes further down.
use Rattle.std.proofs.Common.{ℕ, ◌<◌, length, IfSome}
use Rattle.dcx_arena.specs.Nodes.{positions, Holds}
use Rattle.dcx_arena.specs.Chains.{bucket_for, nodes_of, IsIn, IsUpTo}
use Rattle.dcx_arena.proofs.Walks.{left_of}
use Rattle.dcx_arena.proofs.store.find.Given as goal

abbrev pub invariant-loop-at : goal.invariant-loop-at
invariant-loop-at g l = record {
  within : IfSome l.at (λ i. (i < length l.stored) × IsIn l.stored (bucket_for g.C.Operator.bucket_of l.call (positions l.args)) i);
  rest : (j : ℕ) → Holds (nodes_of l.cells l.stored) l.call (positions l.args) j → IsUpTo j l.at;
}

abbrev pub decreases-loop-at : goal.decreases-loop-at
decreases-loop-at g l = left_of l.at
