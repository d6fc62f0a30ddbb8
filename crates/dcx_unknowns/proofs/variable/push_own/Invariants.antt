-- As many kinds are added as there were turns.
use Rattle.std.proofs.Common.{◌≡◌, ◌++◌, replicate}
use Rattle.dcx_unknowns.proofs.variable.push_own.Given as goal

abbrev pub invariant-own : goal.invariant-own
invariant-own l = l.kinds.items ≡ l.fn.kinds.items ++ replicate l.counter l.kind
