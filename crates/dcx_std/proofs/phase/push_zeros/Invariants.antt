-- There are so many zeros as there were turns.
use Rattle.std.proofs.Common.{◌≡◌, ◌++◌, replicate, pos}
use Rattle.dcx_std.proofs.phase.push_zeros.Given as goal

abbrev pub invariant-zeros : goal.invariant-zeros
invariant-zeros l = l.entries.items ≡ l.fn.entries.items ++ replicate l.counter (pos 0)
