-- Each bucket has the head that it had, and with each head that is added fewer are wanting.
use Rattle.std.proofs.Common.{◌≡◌, ℕ, ◌-◌, length, get_or, None}
use Rattle.dcx_arena.specs.Chains.{number_of_buckets}
use Rattle.dcx_arena.proofs.store.ready.Given as goal

abbrev pub invariant-loop-heads : goal.invariant-loop-heads
invariant-loop-heads l = (b : ℕ) → get_or l.heads.items b None ≡ get_or l.fn.heads.items b None

abbrev pub decreases-loop-heads : goal.decreases-loop-heads
decreases-loop-heads l = number_of_buckets - length l.heads.items
