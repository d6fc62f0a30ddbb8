-- The origins of the entries so far are added.
use Rattle.std.proofs.Common.{◌≡◌, ◌++◌, map, take}
use Rattle.dcx_graph.specs.Program.{entry_origin}
use Rattle.dcx_graph.proofs.origin.push_entries.Given as goal

abbrev pub invariant-entries : goal.invariant-entries
invariant-entries l = l.origins.items ≡ l.fn.origins.items ++ map entry_origin (take l.entry-index l.entries)
