-- The nodes so far begin where they are told to, and the next begins behind them.
use Rattle.std.proofs.Common.{◌≡◌}
use Rattle.dcx_atom.specs.Arrays.{list_below}
use Rattle.dcx_cert_collect.specs.Starts.{start_of}
use Rattle.dcx_cert_collect.proofs.places.starts_of.Given as goal

abbrev pub invariant-loop-i : goal.invariant-loop-i
invariant-loop-i l = (l.starts.items ≡ list_below l.i (start_of l.tree)) × (l.next ≡ start_of l.tree l.i)
