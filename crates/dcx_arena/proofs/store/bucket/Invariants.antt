-- The number so far is that of a bucket, and mixed with the arguments that are left it is the call's.
use Rattle.std.proofs.Common.{◌≡◌, ◌<◌, drop}
use Rattle.dcx_arena.specs.Nodes.{positions}
use Rattle.dcx_arena.specs.Chains.{bucket_for, mixed, number_of_buckets}
use Rattle.dcx_arena.proofs.store.bucket.Given as goal

abbrev pub invariant-loop-a : goal.invariant-loop-a
invariant-loop-a g l = record {
  below : l.n < number_of_buckets;
  rest : mixed l.n (positions (drop l.a-index l.args)) ≡ bucket_for g.C.Operator.bucket_of l.fn.call (positions l.args);
}
