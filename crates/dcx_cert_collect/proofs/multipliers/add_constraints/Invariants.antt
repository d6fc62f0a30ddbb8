-- The constraints so far have their multipliers.
use Rattle.std.proofs.Common.{◌≡◌, Ok, slice_get}
use Rattle.dcx_atom.specs.Arrays.{joined_below}
use Rattle.dcx_cert_collect.specs.Shares.{with_shares}
use Rattle.dcx_cert_collect.specs.Multipliers.{constraint_shares}
use Rattle.dcx_cert_collect.proofs.multipliers.add_constraints.Given as goal

abbrev pub invariant-loop-k : goal.invariant-loop-k
invariant-loop-k l = with_shares l.initial.table.items (joined_below l.k (λ k. constraint_shares l.tree (slice_get l.constraints k) (slice_get l.duals k))) ≡ Ok l.table.items
