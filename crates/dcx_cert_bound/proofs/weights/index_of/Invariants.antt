-- The index is right for the last weights.
use Rattle.std.proofs.Common.{◌≡◌, ℕ, ◌-◌, ◌<◌, length, drop}
use Rattle.dcx_cert_bound.specs.Weights.{indexed_at, weights_at}
use Rattle.dcx_cert_bound.proofs.weights.index_of.Given as goal

abbrev pub invariant-loop-k : goal.invariant-loop-k
invariant-loop-k l = record {
  sized : length l.index.items ≡ l.nodes;
  each : (i : ℕ) → i < l.nodes → indexed_at l.index.items l.weights i ≡ weights_at (drop (l.count - l.k) l.weights) i;
}
