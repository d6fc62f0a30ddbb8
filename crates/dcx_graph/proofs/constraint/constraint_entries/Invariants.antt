-- The entries so far, and then those of the constraints that are left, are all.
use Rattle.std.proofs.Common.{◌≡◌, ◌++◌, drop}
use Rattle.dcx_graph.specs.Program.{entries_from}
use Rattle.dcx_graph.proofs.constraint.constraint_entries.Given as goal

abbrev pub invariant-constraints : goal.invariant-constraints
invariant-constraints l = l.entries.items ++ entries_from l.index (drop l.index l.constraints) ≡ entries_from 0 l.constraints
