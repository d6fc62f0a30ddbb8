-- The nodes so far, and then those that are left, are all.
use Rattle.std.proofs.Common.{◌≡◌, ◌-◌, ◌++◌}
use Rattle.dcx_arena.specs.Nodes.{positions}
use Rattle.dcx_arena.specs.Chains.{chain, IsChain}
use Rattle.dcx_arena.proofs.store.ids_in.Given as goal

abbrev pub invariant-loop : goal.invariant-loop
invariant-loop l = record {
  there : IsChain l.cells (l.count - l.counter) l.at;
  rest : positions l.ids.items ++ chain l.cells (l.count - l.counter) l.at ≡ chain l.cells l.count l.fn.first;
}
