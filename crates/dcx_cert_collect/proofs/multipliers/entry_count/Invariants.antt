-- The entries of the nodes so far.
use Rattle.std.proofs.Common.{◌≡◌}
use Rattle.dcx_cert_collect.specs.Starts.{start_of}
use Rattle.dcx_cert_collect.proofs.multipliers.entry_count.Given as goal

abbrev pub invariant-loop-i : goal.invariant-loop-i
invariant-loop-i l = l.count ≡ start_of l.tree l.i
