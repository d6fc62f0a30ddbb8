-- What is left to pass gives what all nodes give.
use Rattle.std.proofs.Common.{◌≡◌, ℕ, ◌-◌, ◌<◌, ◌≤◌, None, length}
use Rattle.dcx_tree.specs.Values.{array_at}
use Rattle.dcx_cert_collect.specs.Starts.{start_of}
use Rattle.dcx_cert_collect.specs.Pass.{kept_of, pass_down, HasFractions}
use Rattle.dcx_cert_collect.proofs.pass.collect.Given as goal

abbrev pub invariant-loop-k : goal.invariant-loop-k
invariant-loop-k g l =
    (length l.state.below.items ≡ start_of l.given.tree.now (length l.given.tree.now - l.k))
    × (pass_down l.given.tree.now l.given.values.now (g.W.CallWeights.weights l.weights) (length l.given.tree.now) (kept_of l.initial.state)
    ≡ pass_down l.given.tree.now l.given.values.now (g.W.CallWeights.weights l.weights) (length l.given.tree.now - l.k) (kept_of l.state))
    × ((i : ℕ) → length l.given.tree.now - l.k ≤ i → i < length l.given.tree.now → array_at l.given.values.now i ≡ None → HasFractions l.given.tree.now i (g.W.CallWeights.weights l.weights i))
